use Rattle.std.proofs.Common.{sym, subst}
use Rattle.ft_command.specs.Asked.{run_view}
use Rattle.ft_tool.specs.Answers.{TrialsObject}
use Rattle.ft_tool.specs.Endings.{Ends}
use Rattle.ft_tool.proofs.Answered.{trial_ends}
use Rattle.ft_tool.proofs.trial.trial_object.Goals as goal

pub returns : goal.returns
returns g c =
    let r = run_view c.args.run.now in
    let o = g.P.Program.object c.args.program.now in
    let old = g.K.Sink.log c.args.out.now in
    let new = g.K.Sink.log c.drive.new.out in
    subst (λ e. Ends e (TrialsObject r o) old new ⊥) (sym c.ending_of_run.ensures)
    (trial_ends c.drive.result r o c.as_slice.result.now old new c.as_slice.ensures.value c.drive.ensures.ends
    c.drive.ensures.lines)
