use Rattle.std.proofs.Common.{◌≡◌, take}
use Rattle.ft_types.proofs.rows.copy_blocks.Given as goal

abbrev pub invariant-loop-b : goal.invariant-loop-b
invariant-loop-b g l = l.blocks.items ≡ take l.b (g.P.Program.object l.program).blocks
