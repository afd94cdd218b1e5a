use Rattle.std.proofs.Common.{sym, ap, ◌∙◌, subst}
use Rattle.ft_edge.specs.Lines.{with_lines, BreaksOff}
use Rattle.ft_command.specs.Asked.{run_view}
use Rattle.ft_tool.specs.Answers.{RecoversObject, again_lines}
use Rattle.ft_tool.specs.Endings.{Ends}
use Rattle.ft_tool.proofs.Recovered.{recovery_ends, recovery_breaks_late}
use Rattle.ft_tool.proofs.recover.recover_checked.Goals as goal

pub returns-in-Ok : goal.returns-in-Ok
returns-in-Ok g c =
    let o = g.P.Program.object c.args.checked.now in
    let r = run_view c.args.run.now in
    let old = g.K.Sink.log c.args.out.now in
    let mid = g.K.Sink.log c.recover-end.new.out in
    let new = g.K.Sink.log c.put_again.new.out in
    let h = c.recover-end.ensures in
    subst (λ e. Ends e (RecoversObject r o) old new ⊥) (sym c.ending_of_recovery.ensures)
    (recovery_ends r o c.as_slice.result.now old mid new c.requires.spellable c.requires.accepted
    c.as_slice.ensures.value c.recover-end.result h.ends h.again h.lines
    (c.in-Ok.ensures ∙ ap (λ n. with_lines (again_lines n) mid) c.again_of.ensures))

pub returns-in-Err : goal.returns-in-Err
returns-in-Err g c =
    let o = g.P.Program.object c.args.checked.now in
    let mid = g.K.Sink.log c.recover-end.new.out in
    let new = g.K.Sink.log c.put_again.new.out in
    let h = c.recover-end.ensures in
    recovery_breaks_late (run_view c.args.run.now) o c.as_slice.result.now (g.K.Sink.log c.args.out.now) mid new
    c.requires.spellable c.requires.accepted c.as_slice.ensures.value
    c.recover-end.result h.again h.lines (subst (λ n. BreaksOff (again_lines n) mid new) c.again_of.ensures
    c.in-Err.ensures)
