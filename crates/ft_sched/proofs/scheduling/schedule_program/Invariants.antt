use Rattle.std.proofs.Common.{◌≡◌, []}
use Rattle.ft_sched.specs.UpTo.{IsUpTo}
use Rattle.ft_sched.proofs.scheduling.schedule_program.Given as goal

abbrev pub invariant-loop-b : goal.invariant-loop-b
invariant-loop-b g l = record {
  none_waits : l.order.waiting ≡ [];
  up_to : IsUpTo (g.P.Program.object l.program) l.b l.order.laid.items;
}
