-- How many rows of each kind the modules have in all.
use Rattle.std.specs.Prelude.{◌≤◌, Bool, ◌&&◌, nat_le, List, length, sum_by}
use Rattle.ft_types.specs.declared.object.Object.{Object}
use Rattle.ft_types.specs.Spellable.{reg_row_count, queue_row_count}
use Rattle.ft_linker.specs.declared.totals.Totals.{Totals}

abbrev pub totals_of : List Object → Totals
totals_of modules = record {
  nodes = sum_by (λ (o : Object). length o.nodes) modules;
  types = sum_by (λ (o : Object). length o.types) modules;
  reg_rows = sum_by (λ (o : Object). reg_row_count o.types) modules;
  queue_rows = sum_by (λ (o : Object). queue_row_count o.types) modules;
  blocks = sum_by (λ (o : Object). length o.blocks) modules;
  instrs = sum_by (λ (o : Object). length o.instrs) modules;
  substs = sum_by (λ (o : Object). length o.substs) modules;
}

-- the totals are within their limits
pub record HasFew (t : Totals) : Type 0 where
  pub nodes : t.nodes ≤ 1048576
  pub types : t.types ≤ 4096
  pub reg_rows : t.reg_rows ≤ 262144
  pub queue_rows : t.queue_rows ≤ 32768
  pub blocks : t.blocks ≤ 65536
  pub instrs : t.instrs ≤ 65536
  pub substs : t.substs ≤ 1048576

-- whether the totals are within their limits
abbrev pub has_few : Totals → Bool
has_few t =
    nat_le t.nodes 1048576
    && nat_le t.types 4096
    && nat_le t.reg_rows 262144
    && nat_le t.queue_rows 32768
    && nat_le t.blocks 65536
    && nat_le t.instrs 65536
    && nat_le t.substs 1048576
