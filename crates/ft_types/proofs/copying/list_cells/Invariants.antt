use Rattle.std.proofs.Common.{◌≡◌, take}
use Rattle.ft_types.proofs.copying.list_cells.Given as goal

abbrev pub invariant-loop-k : goal.invariant-loop-k
invariant-loop-k g l = l.cells.items ≡ take l.k (g.P.Program.object l.program).cells
