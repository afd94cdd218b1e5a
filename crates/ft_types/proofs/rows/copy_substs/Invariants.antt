use Rattle.std.proofs.Common.{◌≡◌, take}
use Rattle.ft_types.proofs.rows.copy_substs.Given as goal

abbrev pub invariant-loop-n : goal.invariant-loop-n
invariant-loop-n g l = l.substs.items ≡ take l.n (g.P.Program.object l.program).substs
