use Rattle.std.proofs.Common.{sym, subst}
use Rattle.ft_exchange.specs.Alike.{RunsAlike}
use Rattle.ft_exchange.specs.Scheduled.{IsScheduled}
use Rattle.ft_exchange.proofs.Chains.{kept, alike}
use Rattle.ft_exchange.proofs.Unique.{one_schedule}
use Rattle.ft_sched.proofs.scheduling.schedule.Goals as goal

pub returns-clause-one : goal.returns-clause-one
returns-clause-one g c = λ t h.
    let o = g.P.Program.object c.program-program.result.now in
    let k = c.program-program.ensures.checked in
    one_schedule o t c.in_ok-scheduled.scheduled k.spellable
    (subst (λ p. IsScheduled (g.P.Program.object p) t) (sym c.program-program.ensures.same) h)
    c.in_ok-scheduled.ensures

pub returns-clause-spellable : goal.returns-clause-spellable
returns-clause-spellable g c =
    let k = c.program-program.ensures.checked in
    (kept (g.P.Program.object c.program-program.result.now) c.in_ok-scheduled.scheduled k.spellable k.accepted
    c.in_ok-scheduled.ensures.comes).spellable

pub returns-clause-accepted : goal.returns-clause-accepted
returns-clause-accepted g c =
    let k = c.program-program.ensures.checked in
    (kept (g.P.Program.object c.program-program.result.now) c.in_ok-scheduled.scheduled k.spellable k.accepted
    c.in_ok-scheduled.ensures.comes).accepted

pub returns-clause-runs : goal.returns-clause-runs
returns-clause-runs g c = λ w n.
    let k = c.program-program.ensures.checked in
    subst (λ p. RunsAlike (g.P.Program.object p) c.in_ok-scheduled.scheduled w n) c.program-program.ensures.same
    (alike (g.P.Program.object c.program-program.result.now) c.in_ok-scheduled.scheduled w n k.spellable k.accepted
    c.in_ok-scheduled.ensures.comes)
