use Rattle.std.proofs.Common.{◌≡◌, ◌∙◌, sym, ap, subst, refl, ℕ, List, [], ◌∷◌, take, arith}
use Rattle.ft_edge.specs.Lines.{BreaksOff, with_lines}
use Rattle.ft_edge.proofs.Lines.{lines_none, lines_then, breaks_at, puts_failed}
use Rattle.ft_campaign.specs.Texts.{verdict_lines}
use Rattle.ft_campaign.proofs.VerdictLines.{line_there, line_next, all_lines}
use Rattle.ft_campaign.proofs.report.put_verdicts.Goals as goal

pub loop-i-init : goal.loop-i-init
loop-i-init g c = lines_none (g.K.Sink.log c.args.out.now)

pub returns-in_err-put_line : goal.returns-in_err-put_line
returns-in_err-put_line g c =
    let mid = g.K.Sink.log c.loop-i.out in
    let new = g.K.Sink.log c.put_line.new.out in
    puts_failed c.from_residual.result _ _ _ c.from_residual.ensures.0
    (breaks_at _ _ _ _ _ mid new
    (line_there c.args.faults.now c.args.verdicts.now c.loop-i.i c.index-faults-i.result _ _ c.loop-i-test.true
    c.requires c.index-faults-i.is refl) c.loop-i.invariant
    (subst (λ (l : List ℕ). BreaksOff (l ∷ []) mid new) (c.as_bytes.ensures ∙ c.verdict_line-line.ensures)
    c.in_err-put_line.ensures))

pub loop-i-preserved : goal.loop-i-preserved
loop-i-preserved g c =
    let lines = verdict_lines c.args.faults.now c.args.verdicts.now in
    let mid = g.K.Sink.log c.loop-i.out in
    let next = line_next c.args.faults.now c.args.verdicts.now c.loop-i.i c.index-faults-i.result _ _ c.loop-i-test.true
    c.requires c.index-faults-i.is refl in
    subst (λ (ls : List (List ℕ)). g.K.Sink.log c.put_line.new.out ≡ with_lines ls (g.K.Sink.log c.args.out.now))
    (sym next)
    (lines_then (take c.loop-i.i lines) _ _ mid _ c.loop-i.invariant
    (c.in_ok-put_line.ensures ∙ ap (λ l. with_lines (l ∷ []) mid) (c.as_bytes.ensures ∙ c.verdict_line-line.ensures)))

pub returns : goal.returns
returns g c =
    subst (λ (ls : List (List ℕ)). g.K.Sink.log c.loop-i.out ≡ with_lines ls (g.K.Sink.log c.args.out.now))
    (all_lines c.args.faults.now c.args.verdicts.now c.loop-i.i c.requires (omega arith)) c.loop-i.invariant
