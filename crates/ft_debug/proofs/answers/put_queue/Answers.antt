use Rattle.std.proofs.Common.{◌≡◌, ℕ, List, [], ◌∷◌, ap, sym, ◌∙◌, subst, arith}
use Rattle.std.proofs.lemmas.Bool.{true≢false}
use Rattle.std.proofs.lemmas.Option.{slice_get-get_or}
use Rattle.ft_edge.specs.Lines.{BreaksOff, with_lines}
use Rattle.ft_edge.proofs.Lines.{lines_none, puts_failed}
use Rattle.ft_debug.proofs.Listed.{entries_more, entries_break, entries_all}
use Rattle.ft_debug.proofs.answers.put_queue.Goals as goal

pub loop-i-init : goal.loop-i-init
loop-i-init g c = lines_none (g.K.Sink.log c.args.out.now)

pub unreachable-requires : goal.unreachable-requires
unreachable-requires g c = c.in_default.not-Some _ (c.get.ensures
    ∙ slice_get-get_or c.args.queue.now c.loop-i.i (
      0,
      0,
    ) (omega (arith, c.len-i-end.ensures.pairs, c.loop-i-test.true)))

pub returns-in_err-put_line : goal.returns-in_err-put_line
returns-in_err-put_line g c =
    let some : ¬ (c.args.queue.now ≡ []) = λ e. true≢false (sym (c.is_empty.ensures.1 e) ∙ c.if-is_empty.false) in
    let mid = g.K.Sink.log c.loop-i.out in
    let new = g.K.Sink.log c.put_line-in-loop-i.new.out in
    puts_failed c.from_residual.result _ _ _ c.from_residual.ensures.0
    (entries_break c.args.queue.now c.loop-i.i c.in-Some.entry _ mid new some (sym c.get.ensures ∙ c.in-Some.is)
    c.loop-i.invariant
    (subst (λ (l : List ℕ). BreaksOff (l ∷ []) mid new) (c.as_bytes.ensures ∙ c.entry_line.ensures)
    c.in_err-put_line.ensures))

pub loop-i-preserved : goal.loop-i-preserved
loop-i-preserved g c =
    let mid = g.K.Sink.log c.loop-i.out in
    entries_more c.args.queue.now c.loop-i.i c.in-Some.entry _ mid _ (sym c.get.ensures ∙ c.in-Some.is)
    c.loop-i.invariant
    (c.in_ok-put_line.ensures ∙ ap (λ l. with_lines (l ∷ []) mid) (c.as_bytes.ensures ∙ c.entry_line.ensures))

pub returns : goal.returns
returns g c =
    let some : ¬ (c.args.queue.now ≡ []) = λ e. true≢false (sym (c.is_empty.ensures.1 e) ∙ c.if-is_empty.false) in
    entries_all c.args.queue.now c.loop-i.i _ _ some (omega (arith, c.len-i-end.ensures.pairs, c.loop-i-test.false))
    c.loop-i.invariant
