-- The rows from here on decide as all rows do.
use Rattle.std.proofs.Common.{◌≡◌, drop}
use Rattle.ft_riscv.specs.Table.{first_fitting}
use Rattle.ft_riscv.proofs.table.first_fitting.Given as goal

abbrev pub invariant-loop-row : goal.invariant-loop-row
invariant-loop-row l = first_fitting (drop l.row-index l.rows) l.word ≡ first_fitting l.rows l.word
