use Rattle.std.proofs.Common.{subst}
use Rattle.ft_typing.specs.Accepted.{refusal}
use Rattle.ft_tool.specs.Answers.{SchedulesAccepted, SchedulesObject}
use Rattle.ft_tool.specs.Files.{IsNotAccepted}
use Rattle.ft_tool.proofs.Answered.{Ends-map}
use Rattle.ft_tool.proofs.Scheduled.{schedule_accepted, schedule_refused}
use Rattle.ft_tool.proofs.schedule.schedule_object.Goals as goal

pub returns-in-Ok : goal.returns-in-Ok
returns-in-Ok g c =
    let o = g.P.Program.object c.args.program.now in
    Ends-map c.put_schedule.result (SchedulesAccepted (g.P.Program.object c.in-Ok.checked)) (SchedulesObject o) _ _ ⊥ ⊥
    (λ a is. schedule_accepted (refusal o) o c.in-Ok.ensures.judged a
    (subst (λ p. SchedulesAccepted (g.P.Program.object p) a) c.in-Ok.ensures.program is)) (λ x. x)
    c.put_schedule.ensures

pub returns-in-Err : goal.returns-in-Err
returns-in-Err g c =
    let o = g.P.Program.object c.args.program.now in
    Ends-map c.refuse_check.result (IsNotAccepted c.in-Err.error) (SchedulesObject o) _ _ ⊥ ⊥
    (λ a is. schedule_refused (refusal o) o c.in-Err.error c.in-Err.ensures.judged a is) (λ x. x) c.refuse_check.ensures
