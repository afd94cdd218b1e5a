use Rattle.std.proofs.Common.{◌≡◌, take}
use Rattle.ft_types.proofs.rows.copy_instrs.Given as goal

abbrev pub invariant-loop-i : goal.invariant-loop-i
invariant-loop-i g l = l.instrs.items ≡ take l.i (g.P.Program.object l.program).instrs
