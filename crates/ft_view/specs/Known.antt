-- What is known of a valid instruction record: its kind, operation and registers exist.
use Rattle.std.specs.Prelude.{◌<◌, ◌≤◌, ℕ, List}
use Rattle.ft_isa.specs.Operations.{last_op_code}
use Rattle.ft_format.specs.Versions.{last_instr_kind}
use Rattle.ft_format.specs.declared.version.Version.TheVariants.{Second}
use Rattle.ft_view.specs.InPlace.{kind_in, a_in, b_in, c_in, x_in}

pub record IsKnown (bytes : List ℕ) : Type 0 where
  pub kind : kind_in bytes ≤ last_instr_kind Second
  pub op : kind_in bytes ≤ 1 → x_in bytes ≤ last_op_code
  pub a : a_in bytes < 64
  pub b : b_in bytes < 64
  pub c : c_in bytes < 64
