use Rattle.std.proofs.Common.{◌∙◌, ap, subst, ℕ, List, [], ◌∷◌, length}
use Rattle.ft_edge.specs.Lines.{Puts, end_of_puts}
use Rattle.ft_edge.proofs.Lines.{breaks_before, made_by, puts_failed, puts_then}
use Rattle.ft_campaign.specs.Texts.{verdict_lines, end_line, totals_of}
use Rattle.ft_campaign.proofs.report.report.Goals as goal

pub returns-in_err-put_verdicts : goal.returns-in_err-put_verdicts
returns-in_err-put_verdicts g c =
    puts_failed c.from_residual.result _ _ _ c.from_residual.ensures.0
    (breaks_before (verdict_lines c.args.faults.now c.args.verdicts.now)
    (end_line (length c.args.faults.now) (totals_of c.args.verdicts.now) ∷ []) _ _ c.in_err-put_verdicts.ensures)

pub returns : goal.returns
returns g c =
    let r = c.put_line.result in
    let mid = g.K.Sink.log c.put_verdicts.new.out in
    let new = g.K.Sink.log c.put_line.new.out in
    let line = c.as_bytes.ensures ∙ c.end_line.ensures ∙ ap (end_line (length c.args.faults.now)) c.requires.totals in
    puts_then (end_of_puts r) (verdict_lines c.args.faults.now c.args.verdicts.now)
    (end_line (length c.args.faults.now) (totals_of c.args.verdicts.now) ∷ []) _ mid new
    (made_by r) c.in_ok-put_verdicts.ensures (subst (λ (l : List ℕ). Puts (end_of_puts r) (l ∷ []) mid new) line
    c.put_line.ensures)
