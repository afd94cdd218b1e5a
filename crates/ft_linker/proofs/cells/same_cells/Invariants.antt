use Rattle.std.proofs.Common.{◌≡◌, drop}
use Rattle.ft_modules.specs.LinkRefusals.{same_cells}
use Rattle.ft_linker.proofs.cells.same_cells.Given as goal

abbrev pub invariant-loop-k : goal.invariant-loop-k
invariant-loop-k l = same_cells l.a l.b ≡ same_cells (drop l.k l.a) (drop l.k l.b)
