use Rattle.std.proofs.Common.{◌≡◌, take}
use Rattle.ft_types.proofs.copying.list_types.Given as goal

abbrev pub invariant-loop-t : goal.invariant-loop-t
invariant-loop-t g l = l.types.items ≡ take l.t (g.P.Program.object l.program).types
