use Rattle.std.proofs.Common.{subst}
use Rattle.ft_command.specs.Asked.{run_view}
use Rattle.ft_tool.specs.Answers.{RecoversObject}
use Rattle.ft_tool.specs.Endings.{Ends}
use Rattle.ft_tool.proofs.recover.recover_object.Goals as goal

pub returns : goal.returns
returns g c =
    subst (λ q. Ends c.recover_checked.result (RecoversObject (run_view c.args.run.now) (g.P.Program.object q))
    (g.K.Sink.log c.args.out.now) (g.K.Sink.log c.recover_checked.new.out) ⊥)
    c.in-Ok.ensures.program c.recover_checked.ensures
