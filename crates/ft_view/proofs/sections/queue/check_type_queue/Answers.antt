use Rattle.std.proofs.Common.{◌≡◌, ◌+◌, ◌-◌, ℕ, suc, None, Some, List, refl, ap, ◌∙◌, arith, take}
use Rattle.std.proofs.lemmas.List.{length-drop}
use Rattle.std.proofs.lemmas.Result.{err_from_is_err_and}
use Rattle.ft_format.specs.Layout.{numbers, pair_layout}
use Rattle.ft_format.specs.Fields.{pair_numbers}
use Rattle.ft_format.specs.Rules.{queue_broken}
use Rattle.ft_format.specs.Broken.{type_queue_broken}
use Rattle.ft_format.proofs.Loops.{goes, stops, ends, past_more}
use Rattle.ft_view.proofs.sections.queue.check_type_queue.Goals as goal

pub returns-in_err-check_queue_row-clause-judged : goal.returns-in_err-check_queue_row-clause-judged
unfolding type_queue_broken
returns-in_err-check_queue_row-clause-judged c =
    let one_more : c.args.count - c.loop.counter ≡ suc (c.args.count - (c.loop.counter + 1)) = omega arith in
    let bs = c.loop.rest.now in
    let row : List ℕ = pair_numbers c.read-row.result in
    let is : row ≡ numbers pair_layout (take 8 bs) = c.read-row.ensures
    ∙ ap (numbers pair_layout) c.split_at.ensures.front in
    let rule : (queue_broken c.args.nodes.now c.args.ints c.loop.place row) ≡ Some c.in_err-check_queue_row.field-0.0 =
    c.in_err-check_queue_row.ensures in
    let p = err_from_is_err_and c.from_residual.result c.from_residual.ensures.1 in
    rw (p.1, p.2) (stops pair_layout _ _ bs row (queue_broken c.args.nodes.now c.args.ints c.loop.place row) _
    c.in_err-check_queue_row.field-0.0 (type_queue_broken c.args.nodes.now c.args.ints c.loop.place)
    (type_queue_broken c.args.nodes.now c.args.ints (c.loop.place + 8)) one_more is (λ rest.
    refl) rule c.loop.invariant.broken)

pub loop-preserved : goal.loop-preserved
unfolding type_queue_broken
loop-preserved c =
    let one_more : c.args.count - c.loop.counter ≡ suc (c.args.count - (c.loop.counter + 1)) = omega arith in
    let bs = c.loop.rest.now in
    let row : List ℕ = pair_numbers c.read-row.result in
    let is : row ≡ numbers pair_layout (take 8 bs) = c.read-row.ensures
    ∙ ap (numbers pair_layout) c.split_at.ensures.front in
    let rule : (queue_broken c.args.nodes.now c.args.ints c.loop.place row) ≡ None = c.in_ok-check_queue_row.ensures in
    rw (c.split_at.ensures.back) (record {
      there = omega (arith, length-drop 8 bs);
      places = omega arith;
      rest = past_more 8 c.loop.counter c.args.bytes.now bs c.loop.invariant.rest;
      broken = goes pair_layout _ _ bs row (queue_broken c.args.nodes.now c.args.ints c.loop.place row) _
          (type_queue_broken c.args.nodes.now c.args.ints c.loop.place)
          (type_queue_broken c.args.nodes.now c.args.ints (c.loop.place + 8)) one_more is (λ rest.
          refl) rule c.loop.invariant.broken;
    })

pub returns-clause-judged : goal.returns-clause-judged
unfolding type_queue_broken
returns-clause-judged c =
    let no_more : c.args.count - c.loop.counter ≡ 0 = omega arith in
    ends pair_layout _ c.loop.rest.now _ _ (type_queue_broken c.args.nodes.now c.args.ints c.loop.place) no_more refl
    c.loop.invariant.broken
