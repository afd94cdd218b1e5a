use Rattle.ft_tool.specs.Objects.{UpgradesObject}
use Rattle.ft_tool.specs.Answers.{SchedulesAccepted}
use Rattle.ft_tool.proofs.Answered.{Ends-map}
use Rattle.ft_tool.proofs.schedule.put_schedule.Goals as goal

pub returns-in-Ok : goal.returns-in-Ok
returns-in-Ok g c =
    Ends-map c.put_object.result (UpgradesObject c.in-Ok.object)
    (SchedulesAccepted (g.P.Program.object c.args.checked.now)) _ _ ⊥ ⊥
    (λ a is. record {
      spellable = c.requires;
      schedule = c.in-Ok.object;
      scheduled = c.in-Ok.ensures.scheduled;
      written = is;
    }) (λ x. x) c.put_object.ensures
