use Rattle.std.proofs.Common.{◌≡◌, arith, rules, sym, ap, ◌∙◌, ◌+◌, ◌++◌, [], ◌∷◌, refl, drop, append_assoc}
use Rattle.std.proofs.lemmas.List.{append-nil, append_cancel_right, same_from_push}
use Rattle.ft_syntax.specs.declared.stmt.Stmt.TheViews.{the_lemmas}
use Rattle.ft_syntax.specs.Plain.{none, plain_expression, plain_statement, plain_list}
use Rattle.ft_syntax.proofs.PlainForms.{matched_while, matched_if, assign_form, assign_at_form}
use Rattle.ft_scope.specs.Size.{same_slot, most_need}
use Rattle.ft_lower.specs.Lowered.{block_count, body_counts, expression_steps, write, statement_steps}
use Rattle.ft_lower.proofs.Forms.{none_left, count_left, counts_left, need_left, steps_left, loop_steps, choice_steps}
use Rattle.ft_lower.proofs.Counts.{not_empty, loop_stack, loop_taken, choice_stack, choice_taken}
use Rattle.ft_lower.proofs.emission.+emit.Goals as goal

-- LOOPS

pub emit_statement-next_count-requires : goal.emit_statement-next_count-requires
emit_statement-next_count-requires t c =
    let below = c.requires.counted.0 in
    let xs = c.in-While.body.items in
    let body = plain_list same_slot xs in
    let is = matched_while same_slot c.args.s.now c.in-While.test c.in-While.body xs none c.in-While.is refl in
    record {
      some = not_empty _ (below ++ body_counts body) (block_count body) (c.requires.counted.1
          ∙ ap (λ st. below ++ body_counts st) is ∙ sym
          (append_assoc below (body_counts body) (block_count body ∷ [])));
    }

pub emit_statement-overflow_add-out-in-While : goal.emit_statement-overflow_add-out-in-While
emit_statement-overflow_add-out-in-While t c =
    let below = c.requires.counted.0 in
    let xs = c.in-While.body.items in
    let is = matched_while same_slot c.args.s.now c.in-While.test c.in-While.body xs none c.in-While.is refl in
    let top = loop_stack below _ _ c.next_count.result (plain_expression same_slot c.in-While.test)
    (plain_list same_slot xs) (c.requires.counted.1 ∙ ap (λ st. below ++ body_counts st) is) c.next_count.ensures in
    let e = ap block_count is in
    omega (arith, e, c.requires.few, top.1)

pub emit_statement-emit_statements-requires : goal.emit_statement-emit_statements-requires
emit_statement-emit_statements-requires t c =
    let below = c.requires.counted.0 in
    let xs = c.deref.result.now in
    let is = matched_while same_slot c.args.s.now c.in-While.test c.in-While.body xs none c.in-While.is
    c.deref.ensures.value in
    let top = loop_stack below _ _ c.next_count.result (plain_expression same_slot c.in-While.test)
    (plain_list same_slot xs) (c.requires.counted.1 ∙ ap (λ st. below ++ body_counts st) is) c.next_count.ensures in
    let e = ap block_count is in
    let d = ap most_need is in (
      search (rules, the_lemmas),
      (
        omega (arith, e, c.requires.few),
        (omega (arith, d, c.requires.pairs), (below, top.0)),
      ),
    )

pub emit_statement-returns-in_ok-put-in-While-3-clause-steps :
    goal.emit_statement-returns-in_ok-put-in-While-3-clause-steps
emit_statement-returns-in_ok-put-in-While-3-clause-steps t c =
    let below = c.requires.counted.0 in
    let xs = c.deref.result.now in
    let e = plain_expression same_slot c.in-While.test in
    let is = matched_while same_slot c.args.s.now c.in-While.test c.in-While.body xs none c.in-While.is
    c.deref.ensures.value in
    let top = loop_stack below _ _ c.next_count.result e (plain_list same_slot xs) (c.requires.counted.1
    ∙ ap (λ st. below ++ body_counts st) is) c.next_count.ensures in
    let n = c.args.spare in
    let b = c.args.block in
    loop_steps _ _ _ _ _ _ n b _ e (plain_list same_slot xs) (omega (arith, top.1)) c.in_ok-put-in-While.ensures
    c.in_ok-emit_expression-in-While.ensures (c.in_ok-put-in-While-2.ensures
    ∙ ap (λ x. c.emit_expression-in-While.new.steps.items ++ x ∷ []) c.exit_step.ensures)
    c.in_ok-emit_statements-in-While.ensures.steps c.in_ok-put-in-While-3.ensures
    ∙ ap (λ st. c.args.steps.now.items ++ statement_steps n b st) (sym is)

pub emit_statement-returns-in_ok-put-in-While-3-clause-counts :
    goal.emit_statement-returns-in_ok-put-in-While-3-clause-counts
emit_statement-returns-in_ok-put-in-While-3-clause-counts t c =
    let below = c.requires.counted.0 in
    let xs = c.deref.result.now in
    let e = plain_expression same_slot c.in-While.test in
    let is = matched_while same_slot c.args.s.now c.in-While.test c.in-While.body xs none c.in-While.is
    c.deref.ensures.value in
    let top = loop_stack below _ _ c.next_count.result e (plain_list same_slot xs) (c.requires.counted.1
    ∙ ap (λ st. below ++ body_counts st) is) c.next_count.ensures in
    loop_taken _ _ _ c.next_count.result e (plain_list same_slot xs) top.1 c.next_count.ensures
    c.in_ok-emit_statements-in-While.ensures.counts
    ∙ ap (λ st. c.emit_statements.new.counts.items ++ body_counts st) (sym is)

pub emit_statement-returns-in_ok-put-in-While-3-clause-block :
    goal.emit_statement-returns-in_ok-put-in-While-3-clause-block
emit_statement-returns-in_ok-put-in-While-3-clause-block t c =
    let below = c.requires.counted.0 in
    let xs = c.deref.result.now in
    let is = matched_while same_slot c.args.s.now c.in-While.test c.in-While.body xs none c.in-While.is
    c.deref.ensures.value in
    let top = loop_stack below _ _ c.next_count.result (plain_expression same_slot c.in-While.test)
    (plain_list same_slot xs) (c.requires.counted.1 ∙ ap (λ st. below ++ body_counts st) is) c.next_count.ensures in
    let e = ap block_count is in
    omega (arith, e, top.1)

-- CHOICES

pub emit_statement-next_count-requires-in-If : goal.emit_statement-next_count-requires-in-If
emit_statement-next_count-requires-in-If t c =
    let below = c.requires.counted.0 in
    let x = plain_list same_slot c.in-If.yes.items in
    let y = plain_list same_slot c.in-If.no.items in
    let is = matched_if same_slot c.args.s.now c.in-If.test c.in-If.yes c.in-If.no c.in-If.yes.items c.in-If.no.items
    none c.in-If.is refl refl in
    let flat : below ++ (body_counts y ++ (body_counts x ++ block_count y ∷ block_count x ∷ []))
    ≡ (below ++ (body_counts y ++ (body_counts x ++ block_count y ∷ []))) ++ block_count x ∷ [] = simp append_assoc in
    record {
      some = not_empty _ (below ++ (body_counts y ++ (body_counts x ++ block_count y ∷ []))) (block_count x)
          (c.requires.counted.1 ∙ ap (λ st. below ++ body_counts st) is ∙ flat);
    }

pub emit_statement-overflow_add-other-in-If : goal.emit_statement-overflow_add-other-in-If
emit_statement-overflow_add-other-in-If t c =
    let below = c.requires.counted.0 in
    let xs = c.in-If.yes.items in
    let ys = c.in-If.no.items in
    let is = matched_if same_slot c.args.s.now c.in-If.test c.in-If.yes c.in-If.no xs ys none c.in-If.is refl refl in
    let top = choice_stack below _ _ c.next_count-in-If.result (plain_expression same_slot c.in-If.test)
    (plain_list same_slot xs) (plain_list same_slot ys) (c.requires.counted.1 ∙ ap (λ st. below ++ body_counts st) is)
    c.next_count-in-If.ensures in
    let e = ap block_count is in
    omega (arith, e, c.requires.few, top.1)

pub emit_statement-overflow_add-out-in-If : goal.emit_statement-overflow_add-out-in-If
emit_statement-overflow_add-out-in-If t c =
    let below = c.requires.counted.0 in
    let xs = c.in-If.yes.items in
    let ys = c.in-If.no.items in
    let is = matched_if same_slot c.args.s.now c.in-If.test c.in-If.yes c.in-If.no xs ys none c.in-If.is refl refl in
    let top = choice_stack below _ _ c.next_count-in-If.result (plain_expression same_slot c.in-If.test)
    (plain_list same_slot xs) (plain_list same_slot ys) (c.requires.counted.1 ∙ ap (λ st. below ++ body_counts st) is)
    c.next_count-in-If.ensures in
    let e = ap block_count is in
    omega (arith, e, c.requires.few, top.1)

pub emit_statement-next_count-requires-in-If-2 : goal.emit_statement-next_count-requires-in-If-2
emit_statement-next_count-requires-in-If-2 t c =
    let below = c.requires.counted.0 in
    let xs = c.in-If.yes.items in
    let ys = c.in-If.no.items in
    let is = matched_if same_slot c.args.s.now c.in-If.test c.in-If.yes c.in-If.no xs ys none c.in-If.is refl refl in
    let top = choice_stack below _ _ c.next_count-in-If.result (plain_expression same_slot c.in-If.test)
    (plain_list same_slot xs) (plain_list same_slot ys) (c.requires.counted.1 ∙ ap (λ st. below ++ body_counts st) is)
    c.next_count-in-If.ensures in
    record { some = not_empty _ _ _ top.0 }

pub emit_statement-overflow_add-out-in-If-2 : goal.emit_statement-overflow_add-out-in-If-2
emit_statement-overflow_add-out-in-If-2 t c =
    let below = c.requires.counted.0 in
    let xs = c.in-If.yes.items in
    let ys = c.in-If.no.items in
    let is = matched_if same_slot c.args.s.now c.in-If.test c.in-If.yes c.in-If.no xs ys none c.in-If.is refl refl in
    let top = choice_stack below _ _ c.next_count-in-If.result (plain_expression same_slot c.in-If.test)
    (plain_list same_slot xs) (plain_list same_slot ys) (c.requires.counted.1 ∙ ap (λ st. below ++ body_counts st) is)
    c.next_count-in-If.ensures in
    let next = same_from_push _ _ _ _ (sym c.next_count-in-If-2.ensures ∙ top.0) in
    let e = ap block_count is in
    omega (arith, e, c.requires.few, top.1, next.1)

pub emit_statement-emit_statements-requires-in-If : goal.emit_statement-emit_statements-requires-in-If
emit_statement-emit_statements-requires-in-If t c =
    let below = c.requires.counted.0 in
    let xs = c.deref-in-If.result.now in
    let ys = c.in-If.no.items in
    let is = matched_if same_slot c.args.s.now c.in-If.test c.in-If.yes c.in-If.no xs ys none c.in-If.is
    c.deref-in-If.ensures.value refl in
    let top = choice_stack below _ _ c.next_count-in-If.result (plain_expression same_slot c.in-If.test)
    (plain_list same_slot xs) (plain_list same_slot ys) (c.requires.counted.1 ∙ ap (λ st. below ++ body_counts st) is)
    c.next_count-in-If.ensures in
    let next = same_from_push _ _ _ _ (sym c.next_count-in-If-2.ensures ∙ top.0) in
    let e = ap block_count is in
    let d = ap most_need is in (
      search (rules, the_lemmas),
      (
        omega (arith, e, c.requires.few),
        (omega (arith, d, c.requires.pairs), (below ++ body_counts (plain_list same_slot ys), next.0)),
      ),
    )

pub emit_statement-emit_statements-requires-in-If-2 : goal.emit_statement-emit_statements-requires-in-If-2
emit_statement-emit_statements-requires-in-If-2 t c =
    let below = c.requires.counted.0 in
    let xs = c.deref-in-If.result.now in
    let ys = c.deref-in-If-2.result.now in
    let is = matched_if same_slot c.args.s.now c.in-If.test c.in-If.yes c.in-If.no xs ys none c.in-If.is
    c.deref-in-If.ensures.value c.deref-in-If-2.ensures.value in
    let top = choice_stack below _ _ c.next_count-in-If.result (plain_expression same_slot c.in-If.test)
    (plain_list same_slot xs) (plain_list same_slot ys) (c.requires.counted.1 ∙ ap (λ st. below ++ body_counts st) is)
    c.next_count-in-If.ensures in
    let next = same_from_push _ _ _ _ (sym c.next_count-in-If-2.ensures ∙ top.0) in
    let e = ap block_count is in
    let d = ap most_need is in
    let left = append_cancel_right c.emit_statements-in-If.new.counts.items (below
    ++ body_counts (plain_list same_slot ys)) (body_counts (plain_list same_slot xs))
    (sym c.in_ok-emit_statements-in-If.ensures.counts ∙ next.0) in (
      search (rules, the_lemmas),
      (
        omega (arith, e, c.requires.few, top.1),
        (omega (arith, d, c.requires.pairs), (below, left)),
      ),
    )

pub emit_statement-returns-in_ok-put-in-If-3-clause-steps : goal.emit_statement-returns-in_ok-put-in-If-3-clause-steps
emit_statement-returns-in_ok-put-in-If-3-clause-steps t c =
    let below = c.requires.counted.0 in
    let xs = c.deref-in-If.result.now in
    let ys = c.deref-in-If-2.result.now in
    let e = plain_expression same_slot c.in-If.test in
    let is = matched_if same_slot c.args.s.now c.in-If.test c.in-If.yes c.in-If.no xs ys none c.in-If.is
    c.deref-in-If.ensures.value c.deref-in-If-2.ensures.value in
    let top = choice_stack below _ _ c.next_count-in-If.result e (plain_list same_slot xs) (plain_list same_slot ys)
    (c.requires.counted.1 ∙ ap (λ st. below ++ body_counts st) is) c.next_count-in-If.ensures in
    let next = same_from_push _ _ _ _ (sym c.next_count-in-If-2.ensures ∙ top.0) in
    let n = c.args.spare in
    let b = c.args.block in
    choice_steps _ _ _ _ _ _ _ n b _ _ e (plain_list same_slot xs) (plain_list same_slot ys) (omega (arith, top.1))
    (omega (arith, top.1, next.1)) c.in_ok-emit_expression-in-If.ensures (c.in_ok-put-in-If.ensures
    ∙ ap (λ x. c.emit_expression-in-If.new.steps.items ++ x ∷ []) c.exit_step-in-If.ensures)
    c.in_ok-emit_statements-in-If.ensures.steps c.in_ok-put-in-If-2.ensures
    c.in_ok-emit_statements-in-If-2.ensures.steps c.in_ok-put-in-If-3.ensures
    ∙ ap (λ st. c.args.steps.now.items ++ statement_steps n b st) (sym is)

pub emit_statement-returns-in_ok-put-in-If-3-clause-counts : goal.emit_statement-returns-in_ok-put-in-If-3-clause-counts
emit_statement-returns-in_ok-put-in-If-3-clause-counts t c =
    let below = c.requires.counted.0 in
    let xs = c.deref-in-If.result.now in
    let ys = c.deref-in-If-2.result.now in
    let e = plain_expression same_slot c.in-If.test in
    let is = matched_if same_slot c.args.s.now c.in-If.test c.in-If.yes c.in-If.no xs ys none c.in-If.is
    c.deref-in-If.ensures.value c.deref-in-If-2.ensures.value in
    let top = choice_stack below _ _ c.next_count-in-If.result e (plain_list same_slot xs) (plain_list same_slot ys)
    (c.requires.counted.1 ∙ ap (λ st. below ++ body_counts st) is) c.next_count-in-If.ensures in
    let next = same_from_push _ _ _ _ (sym c.next_count-in-If-2.ensures ∙ top.0) in
    choice_taken _ _ _ _ _ _ _ e (plain_list same_slot xs) (plain_list same_slot ys) top.1 next.1
    c.next_count-in-If.ensures c.next_count-in-If-2.ensures c.in_ok-emit_statements-in-If.ensures.counts
    c.in_ok-emit_statements-in-If-2.ensures.counts
    ∙ ap (λ st. c.emit_statements-in-If-2.new.counts.items ++ body_counts st) (sym is)

pub emit_statement-returns-in_ok-put-in-If-3-clause-block : goal.emit_statement-returns-in_ok-put-in-If-3-clause-block
emit_statement-returns-in_ok-put-in-If-3-clause-block t c =
    let below = c.requires.counted.0 in
    let xs = c.deref-in-If.result.now in
    let ys = c.deref-in-If-2.result.now in
    let is = matched_if same_slot c.args.s.now c.in-If.test c.in-If.yes c.in-If.no xs ys none c.in-If.is
    c.deref-in-If.ensures.value c.deref-in-If-2.ensures.value in
    let top = choice_stack below _ _ c.next_count-in-If.result (plain_expression same_slot c.in-If.test)
    (plain_list same_slot xs) (plain_list same_slot ys) (c.requires.counted.1 ∙ ap (λ st. below ++ body_counts st) is)
    c.next_count-in-If.ensures in
    let next = same_from_push _ _ _ _ (sym c.next_count-in-If-2.ensures ∙ top.0) in
    let e = ap block_count is in
    omega (arith, e, top.1, next.1)

-- ASSIGNMENTS

pub emit_statement-returns-in_ok-put-in-Assign-clause-steps :
    goal.emit_statement-returns-in_ok-put-in-Assign-clause-steps
emit_statement-returns-in_ok-put-in-Assign-clause-steps t c =
    let to = c.in-Assign.to in
    let n = c.args.spare in
    let old = c.args.steps.now.items in
    let e = expression_steps (n + 1) (plain_expression same_slot c.in-Assign.value) in
    let is = ap (λ s. plain_statement same_slot s none) c.in-Assign.is
    ∙ assign_form same_slot to c.in-Assign.value none in
    c.in_ok-put-in-Assign.ensures
    ∙ ap (λ w. c.emit_expression.new.steps.items ++ w ∷ []) c.write_step.ensures
    ∙ ap (λ z. z ++ write n to ∷ []) c.in_ok-emit_expression-in-Assign.ensures
    ∙ append_assoc old e (write n to ∷ [])
    ∙ ap (λ st. old ++ statement_steps n c.args.block st) (sym is)

pub emit_statement-returns-in_ok-put-in-Assign-clause-counts :
    goal.emit_statement-returns-in_ok-put-in-Assign-clause-counts
emit_statement-returns-in_ok-put-in-Assign-clause-counts t c =
    let old = c.args.counts.now.items in
    let is = ap (λ s. plain_statement same_slot s none) c.in-Assign.is
    ∙ assign_form same_slot c.in-Assign.to c.in-Assign.value none in
    sym (append-nil old) ∙ ap (λ st. old ++ body_counts st) (sym is)

-- ASSIGNMENTS WITH AN INDEX

pub emit_statement-returns-in_ok-put-in-AssignAt-clause-steps :
    goal.emit_statement-returns-in_ok-put-in-AssignAt-clause-steps
emit_statement-returns-in_ok-put-in-AssignAt-clause-steps t c =
    let to = c.in-AssignAt.to in
    let n = c.args.spare in
    let old = c.args.steps.now.items in
    let ci = expression_steps (n + 1) (plain_expression same_slot c.in-AssignAt.index) in
    let ce = expression_steps (n + 2) (plain_expression same_slot c.in-AssignAt.value) in
    let is = ap (λ s. plain_statement same_slot s none) c.in-AssignAt.is
    ∙ assign_at_form same_slot to c.in-AssignAt.index c.in-AssignAt.value none in
    c.in_ok-put-in-AssignAt.ensures
    ∙ ap (λ w. c.emit_expression-in-AssignAt-2.new.steps.items ++ w ∷ []) c.write_step-in-AssignAt.ensures
    ∙ ap (λ z. z ++ write n to ∷ []) c.in_ok-emit_expression-in-AssignAt-2.ensures
    ∙ ap (λ z. (z ++ ce) ++ write n to ∷ []) c.in_ok-emit_expression-in-AssignAt.ensures
    ∙ append_assoc (old ++ ci) ce (write n to ∷ [])
    ∙ append_assoc old ci (ce ++ write n to ∷ [])
    ∙ ap (λ st. old ++ statement_steps n c.args.block st) (sym is)

pub emit_statement-returns-in_ok-put-in-AssignAt-clause-counts :
    goal.emit_statement-returns-in_ok-put-in-AssignAt-clause-counts
emit_statement-returns-in_ok-put-in-AssignAt-clause-counts t c =
    let old = c.args.counts.now.items in
    let is = ap (λ s. plain_statement same_slot s none) c.in-AssignAt.is
    ∙ assign_at_form same_slot c.in-AssignAt.to c.in-AssignAt.index c.in-AssignAt.value none in
    sym (append-nil old) ∙ ap (λ st. old ++ body_counts st) (sym is)

-- ALL STATEMENTS

pub emit_statements-emit_statement-requires : goal.emit_statements-emit_statement-requires
emit_statements-emit_statement-requires t c =
    let below = c.requires.counted.0 in
    let xs = c.args.all.now in
    let i = c.loop-s.s-index in
    let s = c.s-item.result in
    let e = count_left xs i s c.loop-s-test.true c.s-item.is in
    let d = need_left xs i s c.loop-s-test.true c.s-item.is in
    let own = body_counts (plain_statement same_slot s none) in
    let others = body_counts (plain_list same_slot (drop (i + 1) xs)) in
    let top = c.loop-s.invariant.counts below c.requires.counted.1
    ∙ ap (λ z. below ++ z) (counts_left xs i s c.loop-s-test.true c.s-item.is)
    ∙ sym (append_assoc below others own) in (
      search (rules, the_lemmas),
      (
        omega (arith, e, c.requires.few, c.loop-s.invariant.block),
        (omega (arith, d, c.loop-s.invariant.pairs), (below ++ others, top)),
      ),
    )

pub emit_statements-loop-s-preserved : goal.emit_statements-loop-s-preserved
emit_statements-loop-s-preserved t c =
    let xs = c.args.all.now in
    let i = c.loop-s.s-index in
    let s = c.s-item.result in
    let e = count_left xs i s c.loop-s-test.true c.s-item.is in
    let d = need_left xs i s c.loop-s-test.true c.s-item.is in
    let l = steps_left xs i s c.loop-s-test.true c.s-item.is c.args.spare c.loop-s.at c.in_ok-at.at
    c.in_ok-at.ensures.block in
    let rest = statement_steps c.args.spare c.in_ok-at.at (plain_list same_slot (drop (i + 1) xs)) in
    let own = body_counts (plain_statement same_slot s none) in
    let others = body_counts (plain_list same_slot (drop (i + 1) xs)) in
    record {
      steps = ap (λ z. z ++ rest) c.in_ok-at.ensures.steps
          ∙ append_assoc c.loop-s.steps.items (statement_steps c.args.spare c.loop-s.at
          (plain_statement same_slot s none)) rest ∙ ap (λ z. c.loop-s.steps.items ++ z) (sym l)
          ∙ c.loop-s.invariant.steps;
      block = omega (arith, e, c.in_ok-at.ensures.block, c.loop-s.invariant.block);
      counts = λ below h. append_cancel_right c.emit_statement.new.counts.items (below ++ others) own
          (sym c.in_ok-at.ensures.counts ∙ c.loop-s.invariant.counts below h
          ∙ ap (λ z. below ++ z) (counts_left xs i s c.loop-s-test.true c.s-item.is)
          ∙ sym (append_assoc below others own));
      pairs = omega (arith, d, c.loop-s.invariant.pairs);
    }

pub emit_statements-returns-clause-steps : goal.emit_statements-returns-clause-steps
emit_statements-returns-clause-steps t c =
    let over = ap (statement_steps c.args.spare c.loop-s.at)
    (none_left c.args.all.now c.loop-s.s-index c.loop-s-test.false) in
    sym (append-nil c.loop-s.steps.items) ∙ ap (λ z. c.loop-s.steps.items ++ z) (sym over) ∙ c.loop-s.invariant.steps

pub emit_statements-returns-clause-counts : goal.emit_statements-returns-clause-counts
emit_statements-returns-clause-counts t c =
    let below = c.requires.counted.0 in
    let over = ap body_counts (none_left c.args.all.now c.loop-s.s-index c.loop-s-test.false) in
    let left = c.loop-s.invariant.counts below c.requires.counted.1 ∙ ap (λ z. below ++ z) over ∙ append-nil below in
    c.requires.counted.1 ∙ ap (λ z. z ++ body_counts (plain_list same_slot c.args.all.now)) (sym left)

pub emit_statements-returns-clause-block : goal.emit_statements-returns-clause-block
emit_statements-returns-clause-block t c =
    let e = ap block_count (none_left c.args.all.now c.loop-s.s-index c.loop-s-test.false) in
    omega (arith, e, c.loop-s.invariant.block)
