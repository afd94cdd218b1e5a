use Rattle.std.proofs.Common.{◌≡◌, take}
use Rattle.ft_types.proofs.rows.copy_nodes.Given as goal

abbrev pub invariant-loop-n : goal.invariant-loop-n
invariant-loop-n g l = l.nodes.items ≡ take l.n (g.P.Program.object l.program).nodes
