use Rattle.std.proofs.Common.{sym, ap, ◌∙◌, subst}
use Rattle.ft_runs.specs.Runs.{CleanRun}
use Rattle.ft_command.specs.Asked.{run_view}
use Rattle.ft_tool.specs.Answers.{RunsObject}
use Rattle.ft_tool.specs.Endings.{Ends}
use Rattle.ft_tool.proofs.Answered.{run_ends}
use Rattle.ft_tool.proofs.run.run_object.Goals as goal

pub returns : goal.returns
returns g c =
    let r = run_view c.args.run.now in
    let o = g.P.Program.object c.args.program.now in
    let old = g.K.Sink.log c.args.out.now in
    let new = g.K.Sink.log c.run.new.out in
    let same = ap (λ (r : CleanRun). r.object) c.in-Ok-start.ensures ∙ ap g.P.Program.object c.in-Ok.ensures.program in
    subst (λ e. Ends e (RunsObject r o) old new ⊥) (sym c.ending_of_run.ensures)
    (run_ends c.run.result r o c.in-Ok-start.clean.object c.as_slice.result.now old new c.requires
    c.in-Ok.ensures.judged same c.as_slice.ensures.value
    c.run.ensures.ends c.run.ensures.lines)
