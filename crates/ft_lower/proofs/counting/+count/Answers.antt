use Rattle.std.proofs.Common.{◌≡◌, [], ◌∷◌, ◌++◌, arith, rules, sym, ap, ◌∙◌, ◌<◌, ◌+◌, ◌-◌, refl, drop, length}
use Rattle.std.proofs.Common.{append_assoc}
use Rattle.std.proofs.lemmas.List.{append-nil}
use Rattle.ft_syntax.specs.declared.stmt.Stmt.TheViews.{the_lemmas}
use Rattle.ft_syntax.specs.Plain.{none, plain_expression, plain_statement, plain_list}
use Rattle.ft_syntax.proofs.PlainForms.{matched_while, matched_if, assign_form, assign_at_form}
use Rattle.ft_scope.specs.Size.{same_slot}
use Rattle.ft_lower.specs.Lowered.{block_count, body_counts}
use Rattle.ft_lower.proofs.Forms.{none_left, count_left, counts_left, count_drop}
use Rattle.ft_lower.proofs.Counts.{choice_put}
use Rattle.ft_lower.proofs.counting.+count.Goals as goal

pub count_blocks-loop-i-init : goal.count_blocks-loop-i-init
count_blocks-loop-i-init t c =
    let over = none_left c.args.all.now (length c.args.all.now) (omega arith) in
    record {
      blocks = sym (ap block_count over);
      counts = sym (append-nil c.args.counts.now.items)
          ∙ ap (λ st. c.args.counts.now.items ++ body_counts st) (sym over);
    }

pub count_blocks-count_statement-requires : goal.count_blocks-count_statement-requires
count_blocks-count_statement-requires t c =
    let all = c.args.all.now in
    let i = c.loop-i.i in
    let e = count_left all (i - 1) c.index-all-i.result (omega (arith, c.loop-i.auto.i, c.loop-i-test.true))
    c.index-all-i.is in
    let h : block_count (plain_statement same_slot c.index-all-i.result none) < 4294967296 =
    omega (arith, e, c.requires.few, count_drop all (i - 1)) in
    (search (rules, the_lemmas), h)

pub count_blocks-overflow_add-blocks : goal.count_blocks-overflow_add-blocks
count_blocks-overflow_add-blocks t c =
    let all = c.args.all.now in
    let i = c.loop-i.i in
    let e = count_left all (i - 1) c.index-all-i.result (omega (arith, c.loop-i.auto.i, c.loop-i-test.true))
    c.index-all-i.is in
    let next : i - 1 + 1 ≡ i = omega (arith, c.loop-i-test.true) in
    let same = ap (λ k. block_count (plain_list same_slot (drop k all))) next in
    omega (
      arith,
      e,
      same,
      c.requires.few,
      count_drop all (i - 1),
      c.loop-i.invariant.blocks,
      c.in_ok-blocks.ensures.blocks,
    )

pub count_blocks-loop-i-preserved : goal.count_blocks-loop-i-preserved
count_blocks-loop-i-preserved t c =
    let all = c.args.all.now in
    let i = c.loop-i.i in
    let s = c.index-all-i.result in
    let lt : i - 1 < length all = omega (arith, c.loop-i.auto.i, c.loop-i-test.true) in
    let e = count_left all (i - 1) s lt c.index-all-i.is in
    let d = counts_left all (i - 1) s lt c.index-all-i.is in
    let next : i - 1 + 1 ≡ i = omega (arith, c.loop-i-test.true) in
    let same = ap (λ k. block_count (plain_list same_slot (drop k all))) next in
    let own = body_counts (plain_statement same_slot s none) in
    let old = c.args.counts.now.items in
    let more = body_counts (plain_list same_slot (drop i all)) in
    record {
      blocks = omega (arith, e, same, c.loop-i.invariant.blocks, c.in_ok-blocks.ensures.blocks);
      counts =
          c.in_ok-blocks.ensures.counts
          ∙ ap (λ z. z ++ own) c.loop-i.invariant.counts
          ∙ append_assoc old more own
          ∙ ap (λ k. old ++ (body_counts (plain_list same_slot (drop k all)) ++ own)) (sym next)
          ∙ ap (λ z. old ++ z) (sym d);
    }

pub count_statement-count_blocks-requires : goal.count_statement-count_blocks-requires
count_statement-count_blocks-requires t c =
    let xs = c.deref.result.now in
    let e = ap block_count (matched_while same_slot c.args.s.now c.in-While.test c.in-While.body xs none c.in-While.is
    c.deref.ensures.value) in
    let h : block_count (plain_list same_slot xs) < 4294967296 = omega (arith, e, c.requires.few) in
    (search (rules, the_lemmas), h)

pub count_statement-count_blocks-requires-in-If : goal.count_statement-count_blocks-requires-in-If
count_statement-count_blocks-requires-in-If t c =
    let ys = c.deref-in-If.result.now in
    let e = ap block_count (matched_if same_slot c.args.s.now c.in-If.test c.in-If.yes c.in-If.no c.in-If.yes.items ys
    none c.in-If.is refl c.deref-in-If.ensures.value) in
    let h : block_count (plain_list same_slot ys) < 4294967296 = omega (arith, e, c.requires.few) in
    (search (rules, the_lemmas), h)

pub count_statement-count_blocks-requires-in-If-2 : goal.count_statement-count_blocks-requires-in-If-2
count_statement-count_blocks-requires-in-If-2 t c =
    let xs = c.deref-in-If-2.result.now in
    let e = ap block_count (matched_if same_slot c.args.s.now c.in-If.test c.in-If.yes c.in-If.no xs c.in-If.no.items
    none c.in-If.is c.deref-in-If-2.ensures.value refl) in
    let h : block_count (plain_list same_slot xs) < 4294967296 = omega (arith, e, c.requires.few) in
    (search (rules, the_lemmas), h)

pub count_statement-returns-in-Assign-clause-counts : goal.count_statement-returns-in-Assign-clause-counts
count_statement-returns-in-Assign-clause-counts t c =
    let old = c.args.counts.now.items in
    let is = ap (λ s. plain_statement same_slot s none) c.in-Assign.is
    ∙ assign_form same_slot c.in-Assign.to c.in-Assign.value none in
    sym (append-nil old) ∙ ap (λ st. old ++ body_counts st) (sym is)

pub count_statement-returns-in-AssignAt-clause-counts : goal.count_statement-returns-in-AssignAt-clause-counts
count_statement-returns-in-AssignAt-clause-counts t c =
    let old = c.args.counts.now.items in
    let is = ap (λ s. plain_statement same_slot s none) c.in-AssignAt.is
    ∙ assign_at_form same_slot c.in-AssignAt.to c.in-AssignAt.index c.in-AssignAt.value none in
    sym (append-nil old) ∙ ap (λ st. old ++ body_counts st) (sym is)

pub count_statement-returns-in_ok-push-in-While-clause-counts :
    goal.count_statement-returns-in_ok-push-in-While-clause-counts
count_statement-returns-in_ok-push-in-While-clause-counts t c =
    let old = c.args.counts.now.items in
    let xs = c.deref.result.now in
    let body = plain_list same_slot xs in
    let is = matched_while same_slot c.args.s.now c.in-While.test c.in-While.body xs none c.in-While.is
    c.deref.ensures.value in
    c.in_ok-push-in-While.ensures.items
    ∙ ap (λ z. z ++ c.in_ok-inner-in-While.inner ∷ []) c.in_ok-inner-in-While.ensures.counts
    ∙ ap (λ n. (old ++ body_counts body) ++ n ∷ []) c.in_ok-inner-in-While.ensures.blocks
    ∙ append_assoc old (body_counts body) (block_count body ∷ [])
    ∙ ap (λ st. old ++ body_counts st) (sym is)

pub count_statement-returns-in_ok-push-in-If-2-clause-counts :
    goal.count_statement-returns-in_ok-push-in-If-2-clause-counts
count_statement-returns-in_ok-push-in-If-2-clause-counts t c =
    let old = c.args.counts.now.items in
    let ys = c.deref-in-If.result.now in
    let xs = c.deref-in-If-2.result.now in
    let is = matched_if same_slot c.args.s.now c.in-If.test c.in-If.yes c.in-If.no xs ys none c.in-If.is
    c.deref-in-If-2.ensures.value c.deref-in-If.ensures.value in
    choice_put old _ _ _ _ c.in_ok-inner_yes-in-If.inner_yes c.in_ok-inner_no-in-If.inner_no
    (plain_expression same_slot c.in-If.test) (plain_list same_slot xs) (plain_list same_slot ys)
    c.in_ok-inner_no-in-If.ensures.counts c.in_ok-inner_yes-in-If.ensures.counts c.in_ok-push-in-If.ensures.items
    c.in_ok-push-in-If-2.ensures.items c.in_ok-inner_yes-in-If.ensures.blocks c.in_ok-inner_no-in-If.ensures.blocks
    ∙ ap (λ st. old ++ body_counts st) (sym is)
