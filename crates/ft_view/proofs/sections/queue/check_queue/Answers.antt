use Rattle.std.proofs.Common.{◌≡◌, ◌+◌, ◌-◌, ◌*◌, ℕ, suc, None, Some, List, drop, refl, sym, ap, ◌∙◌, subst, arith}
use Rattle.std.proofs.Common.{take}
use Rattle.std.specs.Prelude.{◌==◌}
use Rattle.std.proofs.lemmas.List.{length-drop}
use Rattle.std.proofs.lemmas.Result.{err_from_is_err_and}
use Rattle.ft_format.specs.declared.object_error.ObjectError.TheVariants as errors
use Rattle.ft_format.specs.Layout.{numbers, rows, type_layout, pair_layout}
use Rattle.ft_format.specs.Fields.{type_numbers}
use Rattle.ft_format.specs.Rules.{must}
use Rattle.ft_format.specs.Values.{queue_end_of}
use Rattle.ft_format.specs.Broken.{type_queue_broken, queues_broken}
use Rattle.ft_format.proofs.Loops.{goes, stops, ends}
use Rattle.ft_view.specs.Found.{Finds}
use Rattle.ft_view.proofs.EndsRise.{first_end}
use Rattle.ft_view.proofs.sections.queue.check_queue.Goals as goal

pub overflow_sub-count : goal.overflow_sub-count
overflow_sub-count c =
    let one_more : c.args.header.types - c.loop.counter ≡ suc (c.args.header.types - (c.loop.counter + 1)) =
    omega arith in
    let heads = c.loop.heads.now in
    let rest = c.loop.rest.now in
    let row : List ℕ = type_numbers c.read-row.result in
    let is : row ≡ numbers type_layout (take 16 heads) = c.read-row.ensures
    ∙ ap (numbers type_layout) c.split_at.ensures.front in
    let end = first_end queue_end_of c.args.header.queue c.loop.start type_layout _ _ heads row one_more is
    c.loop.invariant.ends in
    end.0

pub check_type_queue-requires-clause-there : goal.check_type_queue-requires-clause-there
check_type_queue-requires-clause-there c =
    let one_more : c.args.header.types - c.loop.counter ≡ suc (c.args.header.types - (c.loop.counter + 1)) =
    omega arith in
    let heads = c.loop.heads.now in
    let rest = c.loop.rest.now in
    let row : List ℕ = type_numbers c.read-row.result in
    let is : row ≡ numbers type_layout (take 16 heads) = c.read-row.ensures
    ∙ ap (numbers type_layout) c.split_at.ensures.front in
    let end = first_end queue_end_of c.args.header.queue c.loop.start type_layout _ _ heads row one_more is
    c.loop.invariant.ends in
    omega (arith, end.0, end.1, c.loop.invariant.there)

pub check_type_queue-requires-clause-places : goal.check_type_queue-requires-clause-places
check_type_queue-requires-clause-places c =
    let one_more : c.args.header.types - c.loop.counter ≡ suc (c.args.header.types - (c.loop.counter + 1)) =
    omega arith in
    let heads = c.loop.heads.now in
    let rest = c.loop.rest.now in
    let row : List ℕ = type_numbers c.read-row.result in
    let is : row ≡ numbers type_layout (take 16 heads) = c.read-row.ensures
    ∙ ap (numbers type_layout) c.split_at.ensures.front in
    let end = first_end queue_end_of c.args.header.queue c.loop.start type_layout _ _ heads row one_more is
    c.loop.invariant.ends in
    omega (arith, end.0, end.1, c.loop.invariant.places)

pub returns-in_err-rest : goal.returns-in_err-rest
unfolding queues_broken
returns-in_err-rest c =
    let one_more : c.args.header.types - c.loop.counter ≡ suc (c.args.header.types - (c.loop.counter + 1)) =
    omega arith in
    let heads = c.loop.heads.now in
    let rest = c.loop.rest.now in
    let row : List ℕ = type_numbers c.read-row.result in
    let is : row ≡ numbers type_layout (take 16 heads) = c.read-row.ensures
    ∙ ap (numbers type_layout) c.split_at.ensures.front in
    let end = first_end queue_end_of c.args.header.queue c.loop.start type_layout _ _ heads row one_more is
    c.loop.invariant.ends in
    let count : ℕ = c.read-row.result.queue - c.loop.start in
    let rule : (type_queue_broken c.args.nodes.now c.read-row.result.ints c.loop.place (rows pair_layout count rest))
    ≡ Some c.in_err-rest.field-0.0 = c.in_err-rest.ensures.judged in
    let p = err_from_is_err_and c.from_residual.result c.from_residual.ensures.1 in
    rw (p.1, p.2) (stops type_layout _ _ heads row
    (type_queue_broken c.args.nodes.now c.read-row.result.ints c.loop.place (rows pair_layout count rest)) _
    c.in_err-rest.field-0.0 (λ rs. queues_broken c.args.header c.args.nodes.now c.loop.start c.loop.place rs rest)
    (λ rs. queues_broken c.args.header c.args.nodes.now c.read-row.result.queue (c.loop.place + 8 * count) rs
    (drop (8 * count) rest)) one_more is (λ r. refl) rule c.loop.invariant.broken)

pub loop-preserved : goal.loop-preserved
unfolding queues_broken
loop-preserved c =
    let one_more : c.args.header.types - c.loop.counter ≡ suc (c.args.header.types - (c.loop.counter + 1)) =
    omega arith in
    let heads = c.loop.heads.now in
    let rest = c.loop.rest.now in
    let row : List ℕ = type_numbers c.read-row.result in
    let is : row ≡ numbers type_layout (take 16 heads) = c.read-row.ensures
    ∙ ap (numbers type_layout) c.split_at.ensures.front in
    let end = first_end queue_end_of c.args.header.queue c.loop.start type_layout _ _ heads row one_more is
    c.loop.invariant.ends in
    let count : ℕ = c.read-row.result.queue - c.loop.start in
    let rule : (type_queue_broken c.args.nodes.now c.read-row.result.ints c.loop.place (rows pair_layout count rest))
    ≡ None = c.in_ok-rest.ensures.judged in
    rw (c.split_at.ensures.back, c.in_ok-rest.ensures.rest) (record {
      types = omega (arith, length-drop 16 heads);
      start = end.1;
      there = omega (arith, length-drop (8 * count) rest, end.0, end.1, c.loop.invariant.there);
      places = omega (arith, end.0, end.1, c.loop.invariant.places);
      ends = end.2;
      broken = goes type_layout _ _ heads row (type_queue_broken c.args.nodes.now c.read-row.result.ints c.loop.place
          (rows pair_layout count rest)) _ (λ rs. queues_broken c.args.header c.args.nodes.now c.loop.start c.loop.place
          rs rest) (λ rs. queues_broken c.args.header c.args.nodes.now c.read-row.result.queue
          (c.loop.place + 8 * count)
          rs (drop (8 * count) rest)) one_more is (λ r. refl) rule c.loop.invariant.broken;
    })

pub returns : goal.returns
unfolding queues_broken
returns c =
    let no_more : c.args.header.types - c.loop.counter ≡ 0 = omega arith in
    let rest = c.loop.rest.now in
    let last = must (c.loop.start == c.args.header.queue) (errors.Order c.loop.place) in
    subst (λ b. Finds c.check.result b) (sym (ends type_layout _ c.loop.heads.now _ last (λ rs.
    queues_broken c.args.header c.args.nodes.now c.loop.start c.loop.place rs rest) no_more refl
    c.loop.invariant.broken)) c.check.ensures
