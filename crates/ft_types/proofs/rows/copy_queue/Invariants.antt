use Rattle.std.proofs.Common.{◌≡◌, take}
use Rattle.ft_types.specs.Objects.{queue_rows}
use Rattle.ft_types.proofs.rows.copy_queue.Given as goal

abbrev pub invariant-loop-j : goal.invariant-loop-j
invariant-loop-j g l = l.queue.items ≡ take l.j (queue_rows (g.P.Program.object l.program) l.t)
