use Rattle.std.proofs.Common.{◌≡◌, [], None, refl, sym, subst, rules}
use Rattle.ft_edge.specs.Lines.{Puts}
use Rattle.ft_semantics.specs.Run.{run, status_after, outputs_after}
use Rattle.ft_machine.specs.Drives.{EndsAs, output_lines, put_end}
use Rattle.ft_command.specs.Commands.{Run}
use Rattle.ft_tool.specs.Replies.{ran}
use Rattle.ft_tool.specs.Endings.{Ends}
use Rattle.ft_tool.proofs.Answered.{trial_ends}
use Rattle.ft_tool.proofs.exec.run_accepted.Goals as goal

pub returns : goal.returns
returns g c =
    let o = c.args.object.now in
    let asked : Run = record { object = []; steps = c.args.steps; strike = None; wild = [] } in
    let old = g.K.Sink.log c.args.out.now in
    let new = g.K.Sink.log c.run.new.out in
    let same : c.in-Ok.clean.object ≡ o = search rules in
    let ends = subst (λ o. EndsAs c.run.result (status_after o None [] c.args.steps)) same c.run.ensures.ends in
    let lines = subst (λ o. Puts (put_end c.run.result) (output_lines o (outputs_after o None [] c.args.steps)) old new)
    same c.run.ensures.lines in
    subst (λ e. Ends e (λ a. a ≡ ran o (run o None [] c.args.steps)) old new ⊥) (sym c.ending_of_run.ensures)
    (trial_ends c.run.result asked o [] old new refl ends lines)
