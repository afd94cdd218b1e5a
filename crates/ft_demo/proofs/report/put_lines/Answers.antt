use Rattle.std.proofs.Common.{◌∙◌, ap, subst, ℕ, List, [], ◌∷◌}
use Rattle.ft_edge.specs.Lines.{BreaksOff, Puts, end_of_puts, with_lines}
use Rattle.ft_edge.proofs.Lines.{breaks_before, made_by, puts_failed, puts_then}
use Rattle.ft_campaign.specs.Texts.{end_line}
use Rattle.ft_demo.specs.Demonstrations.{outputs_line}
use Rattle.ft_demo.proofs.report.put_lines.Goals as goal

pub returns-in_err-put_line : goal.returns-in_err-put_line
returns-in_err-put_line g c =
    let first = outputs_line c.args.tally.count c.args.tally.last in
    let old = g.K.Sink.log c.args.out.now in
    let new = g.K.Sink.log c.put_line.new.out in
    puts_failed c.from_residual.result _ _ _ c.from_residual.ensures.0
    (breaks_before (first ∷ []) (end_line 64 c.args.totals ∷ []) old new
    (subst (λ (l : List ℕ). BreaksOff (l ∷ []) old new) (c.as_bytes.ensures
    ∙ c.outputs_line.ensures) c.in_err-put_line.ensures))

pub returns : goal.returns
returns g c =
    let first = outputs_line c.args.tally.count c.args.tally.last in
    let last = end_line 64 c.args.totals in
    let r = c.put_line-2.result in
    let old = g.K.Sink.log c.args.out.now in
    let mid = g.K.Sink.log c.put_line.new.out in
    let new = g.K.Sink.log c.put_line-2.new.out in
    puts_then (end_of_puts r) (first ∷ []) (last ∷ []) old mid new (made_by r)
    (c.in_ok-put_line.ensures ∙ ap (λ l. with_lines (l ∷ []) old) (c.as_bytes.ensures ∙ c.outputs_line.ensures))
    (subst (λ (l : List ℕ). Puts (end_of_puts r) (l ∷ []) mid new) (c.as_bytes-2.ensures
    ∙ c.end_line.ensures) c.put_line-2.ensures)
