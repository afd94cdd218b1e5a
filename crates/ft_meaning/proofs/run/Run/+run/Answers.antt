use Rattle.std.proofs.Common.{rules, arith, ◌≡◌, ◌≢◌, ◌+◌, ◌-◌, suc, refl, sym, ap, ◌∙◌, subst, drop, length, map}
use Rattle.std.proofs.Math.ListN.{drop_of_length-le}
use Rattle.ft_syntax.specs.declared.expr.Expr.{Expr}
use Rattle.ft_syntax.specs.declared.stmt.Stmt.{Stmt, AssignAt}
use Rattle.ft_syntax.specs.declared.stmt.Stmt.TheViews.{the_lemmas}
use Rattle.ft_syntax.specs.Plain.{none, assign, assign_at, loop, choose, follow, plain_expression, plain_statement}
use Rattle.ft_syntax.specs.Plain.{plain_list}
use Rattle.ft_syntax.specs.Size.{expression_nodes}
use Rattle.ft_syntax.proofs.PlainForms.{list_empty, list_drop, statement_first, assign_form, assign_at_form}
use Rattle.ft_syntax.proofs.PlainForms.{matched_while, matched_if}
use Rattle.ft_scope.specs.declared.slot.Slot.{Slot}
use Rattle.ft_scope.specs.declared.slot.Slot.TheVariants.{Cell}
use Rattle.ft_scope.specs.Size.{same_slot, StatementsFit}
use Rattle.ft_meaning.specs.Meaning.{indexed_cell, value, loops, run, at_zero, then_do, evaluated, evaluated_both}
use Rattle.ft_meaning.specs.Meaning.{assigned, Ended}
use Rattle.ft_meaning.specs.Runs.{state, Ready}
use Rattle.ft_meaning.proofs.Longer.{loops_grows, run_grows}
use Rattle.ft_meaning.proofs.Loops.{at_value, loop_zero, loop_cut, loop_turn, then_ended, run_follow, fits_parts}
use Rattle.ft_meaning.proofs.Loops.{expression_moved, statements_moved}
use Rattle.ft_meaning.proofs.Composed.{runs_from, stops_run, keeps_trans, ready_kept}
use Rattle.ft_meaning.proofs.run.Run.+run.Goals as goal

pub repeat-loop-self-init : goal.repeat-loop-self-init
repeat-loop-self-init g t c = record {
  runs = λ first o w is. (o, w, c.args.self.now.left, omega arith, refl, is);
  test = c.requires.test;
  body = c.requires.body;
  ready = c.requires.ready;
  keeps = record { vars = refl; cells = refl; line = refl; left = omega arith };
}

pub repeat-returns-then-self-eq0-clause-runs : goal.repeat-returns-then-self-eq0-clause-runs
repeat-returns-then-self-eq0-clause-runs g t c = λ first o w is.
    let l = c.loop-self in
    let e = plain_expression same_slot c.args.test.now in
    let R = l.invariant.runs first o w is in
    let ne : value e l.self.vars.items l.self.cells.items ≢ 0 = λ z. c.loop-self-test.true (c.word.ensures ∙ z) in (
      R.0,
      R.1 + (expression_nodes e + 1),
      R.4 ∙ loop_cut e (run (plain_list same_slot c.args.body.now))
          (state l.self R.0 R.1) R.2 ne c.if-self-eq0.true,
      R.5,
    )

pub repeat-statements-requires : goal.repeat-statements-requires
repeat-statements-requires g t c =
    let l = c.loop-self in
    let ready : Ready (map (λ n. n.items) c.args.names.now) (record l.self { left = l.self.left - 1 }) =
    record {
      as_many = l.invariant.ready.as_many;
      few = l.invariant.ready.few;
      line = l.invariant.ready.line;
      room = l.invariant.ready.room;
    } in
    λ κs h. (search (rules, the_lemmas), (h, (l.invariant.body, ready)))

pub repeat-returns-in-Err-clause-runs : goal.repeat-returns-in-Err-clause-runs
repeat-returns-in-Err-clause-runs g t c =
    let l = c.loop-self in
    let e = plain_expression same_slot c.args.test.now in
    let body = plain_list same_slot c.args.body.now in
    let ne : value e l.self.vars.items l.self.cells.items ≢ 0 = λ z. c.loop-self-test.true (c.word.ensures ∙ z) in
    let some : l.self.left ≡ suc (l.self.left - 1) = omega (arith, c.if-self-eq0.false) in
    stops_run (loops c.args.self.now.left e (run body)) (run body) (map (λ n. n.items) c.args.names.now) c.args.self.now
    (record l.self { left = l.self.left - 1 }) c.statements.new.self
    (g.K.Sink.log c.args.out.now) (g.K.Sink.log l.out) (g.K.Sink.log c.statements.new.out) c.in-Err.stop
    (λ first o w is.
    let R = l.invariant.runs first o w is in
    let T = loop_turn e (run body) (state l.self R.0 R.1) R.2 (l.self.left - 1) ne some R.3 in (
      R.0,
      R.1 + (expression_nodes e + 1),
      loops T.0 e (run body),
      (λ s. loops_grows T.0 e (run body) s (run_grows body)),
      R.4 ∙ T.2,
      R.5,
    ))
    c.in-Err.ensures.runs

pub repeat-loop-self-preserved : goal.repeat-loop-self-preserved
repeat-loop-self-preserved g t c =
    let l = c.loop-self in
    let e = plain_expression same_slot c.args.test.now in
    let body = plain_list same_slot c.args.body.now in
    let q = c.statements.new.self in
    let said = c.in_default.ensures in
    let kept = said.keeps in
    let ne : value e l.self.vars.items l.self.cells.items ≢ 0 = λ z. c.loop-self-test.true (c.word.ensures ∙ z) in
    let some : l.self.left ≡ suc (l.self.left - 1) = omega (arith, c.if-self-eq0.false) in
    record {
      runs = λ first o w is.
          let R = l.invariant.runs first o w is in
          let T = loop_turn e (run body) (state l.self R.0 R.1) R.2 (l.self.left - 1) ne some R.3 in
          let B = said.runs first R.0 (R.1 + (expression_nodes e + 1)) R.5 in (
            B.0,
            B.1,
            T.0,
            omega (arith, T.1, kept.left),
            R.4 ∙ T.2 ∙ ap (λ x. then_do x (loops T.0 e (run body))) B.2,
            B.3,
          );
      test = expression_moved e _ _ _ _ kept.cells kept.vars l.invariant.test;
      body = statements_moved body _ _ _ _ kept.cells kept.vars l.invariant.body;
      ready = ready_kept (map (λ n. n.items) c.args.names.now) l.self q (record {
        vars = kept.vars;
        cells = kept.cells;
        line = kept.line;
        left = omega (arith, kept.left);
      }) l.invariant.ready;
      keeps = record {
        vars = kept.vars ∙ l.invariant.keeps.vars;
        cells = kept.cells ∙ l.invariant.keeps.cells;
        line = kept.line ∙ l.invariant.keeps.line;
        left = omega (arith, kept.left, l.invariant.keeps.left);
      };
    }

pub repeat-returns-clause-runs : goal.repeat-returns-clause-runs
repeat-returns-clause-runs g t c = λ first o w is.
    let l = c.loop-self in
    let e = plain_expression same_slot c.args.test.now in
    let R = l.invariant.runs first o w is in (
      R.0,
      R.1 + (expression_nodes e + 1),
      R.4 ∙ loop_zero e (run (plain_list same_slot c.args.body.now))
          (state l.self R.0 R.1) R.2 (sym c.word.ensures ∙ c.loop-self-test.false),
      R.5,
    )

pub statements-loop-s-init : goal.statements-loop-s-init
statements-loop-s-init g t c = record {
  runs = λ first o w is. (o, w, refl, is);
  fits = c.requires.fits;
  ready = c.requires.ready;
  keeps = record { vars = refl; cells = refl; line = refl; left = omega arith };
}

pub statements-statement-requires : goal.statements-statement-requires
statements-statement-requires g t c =
    let l = c.loop-s in
    let all = c.args.all.now in
    let s = c.s-item.result in
    let one = plain_statement same_slot s none in
    let after = plain_list same_slot (drop (l.s-index + 1) all) in
    let next : plain_list same_slot (drop l.s-index all)
    ≡ follow one after = list_drop same_slot all l.s-index s (omega arith)
    ∙ ap (λ x. plain_statement same_slot x after) (sym c.s-item.is) ∙ statement_first same_slot s after in
    let F = fits_parts (length l.self.cells.items) (length l.self.vars.items) one after
    (subst (StatementsFit (length l.self.cells.items) (length l.self.vars.items)) next l.invariant.fits) in
    λ κs h. (search (rules, the_lemmas), (h, (F.0, l.invariant.ready)))

pub statements-returns-in-Err-clause-runs : goal.statements-returns-in-Err-clause-runs
statements-returns-in-Err-clause-runs g t c =
    let l = c.loop-s in
    let all = c.args.all.now in
    let s = c.s-item.result in
    let one = plain_statement same_slot s none in
    let after = plain_list same_slot (drop (l.s-index + 1) all) in
    let next : plain_list same_slot (drop l.s-index all)
    ≡ follow one after = list_drop same_slot all l.s-index s (omega arith)
    ∙ ap (λ x. plain_statement same_slot x after) (sym c.s-item.is) ∙ statement_first same_slot s after in
    stops_run (run (plain_list same_slot all)) (run one) (map (λ n. n.items) c.args.names.now) c.args.self.now l.self
    c.statement.new.self
    (g.K.Sink.log c.args.out.now) (g.K.Sink.log l.out) (g.K.Sink.log c.statement.new.out) c.in-Err.stop
    (λ first o w is.
    let R = l.invariant.runs first o w is in (
      R.0,
      R.1,
      run after,
      run_grows after,
      R.2 ∙ ap (λ b. run b (state l.self R.0 R.1)) next
          ∙ run_follow one after (state l.self R.0 R.1),
      R.3,
    ))
    c.in-Err.ensures.runs

pub statements-loop-s-preserved : goal.statements-loop-s-preserved
statements-loop-s-preserved g t c =
    let l = c.loop-s in
    let all = c.args.all.now in
    let s = c.s-item.result in
    let one = plain_statement same_slot s none in
    let after = plain_list same_slot (drop (l.s-index + 1) all) in
    let next : plain_list same_slot (drop l.s-index all)
    ≡ follow one after = list_drop same_slot all l.s-index s (omega arith)
    ∙ ap (λ x. plain_statement same_slot x after) (sym c.s-item.is) ∙ statement_first same_slot s after in
    let said = c.in_default.ensures in
    let kept = said.keeps in
    let F = fits_parts (length l.self.cells.items) (length l.self.vars.items) one after
    (subst (StatementsFit (length l.self.cells.items) (length l.self.vars.items)) next l.invariant.fits) in
    record {
      runs = λ first o w is.
          let R = l.invariant.runs first o w is in
          let B = said.runs first R.0 R.1 R.3 in (
            B.0,
            B.1,
            R.2 ∙ ap (λ b. run b (state l.self R.0 R.1)) next ∙ run_follow one after (state l.self R.0 R.1)
                ∙ ap (λ x. then_do x (run after)) B.2,
            B.3,
          );
      fits = statements_moved after _ _ _ _ kept.cells kept.vars F.1;
      ready = ready_kept (map (λ n. n.items) c.args.names.now) l.self c.statement.new.self kept l.invariant.ready;
      keeps = keeps_trans c.args.self.now l.self c.statement.new.self l.invariant.keeps kept;
    }

pub statements-returns-clause-runs : goal.statements-returns-clause-runs
statements-returns-clause-runs g t c = λ first o w is.
    let l = c.loop-s in
    let R = l.invariant.runs first o w is in (
      R.0,
      R.1,
      R.2 ∙ ap (λ xs. run (plain_list same_slot xs) (state l.self R.0 R.1))
          (drop_of_length-le c.args.all.now c.loop-s-test.false)
          ∙ ap (λ b. run b (state l.self R.0 R.1)) (list_empty same_slot),
      R.3,
    )

pub statement-word-word-requires : goal.statement-word-word-requires
statement-word-word-requires g t c =
    let r = c.args.self.now in
    let to = c.in-Assign.to in
    let e = plain_expression same_slot c.in-Assign.value in
    let form : plain_statement same_slot c.args.s.now none
    ≡ assign to e none = ap (λ x. plain_statement same_slot x none) c.in-Assign.is
    ∙ assign_form same_slot to c.in-Assign.value none in
    (subst (StatementsFit (length r.cells.items) (length r.vars.items)) form c.requires.fits).1

pub statement-assign-requires-clause-fits : goal.statement-assign-requires-clause-fits
statement-assign-requires-clause-fits g t c =
    let r = c.args.self.now in
    let to = c.in-Assign.to in
    let e = plain_expression same_slot c.in-Assign.value in
    let form : plain_statement same_slot c.args.s.now none
    ≡ assign to e none = ap (λ x. plain_statement same_slot x none) c.in-Assign.is
    ∙ assign_form same_slot to c.in-Assign.value none in
    (subst (StatementsFit (length r.cells.items) (length r.vars.items)) form c.requires.fits).0

pub statement-word-requires : goal.statement-word-requires
statement-word-requires g t c =
    let r = c.args.self.now in
    let form : plain_statement same_slot c.args.s.now none
    ≡ choose (plain_expression same_slot c.in-If.test) (plain_list same_slot c.in-If.yes.items)
    (plain_list same_slot c.in-If.no.items) none =
    matched_if same_slot c.args.s.now c.in-If.test c.in-If.yes c.in-If.no c.in-If.yes.items c.in-If.no.items none
    c.in-If.is refl refl in
    (subst (StatementsFit (length r.cells.items) (length r.vars.items)) form c.requires.fits).0

pub statement-repeat-requires : goal.statement-repeat-requires
statement-repeat-requires g t c =
    let r = c.args.self.now in
    let e = plain_expression same_slot c.in-While.test in
    let body = plain_list same_slot c.deref.result.now in
    let form : plain_statement same_slot c.args.s.now none
    ≡ loop e body none = matched_while same_slot c.args.s.now c.in-While.test c.in-While.body c.deref.result.now none
    c.in-While.is c.deref.ensures.value in
    let F = subst (StatementsFit (length r.cells.items) (length r.vars.items)) form c.requires.fits in
    λ κs h. (search (rules, the_lemmas), (h, (F.0, (F.1, c.requires.ready))))

pub statement-statements-requires : goal.statement-statements-requires
statement-statements-requires g t c =
    let r = c.args.self.now in
    let e = plain_expression same_slot c.in-If.test in
    let yes = plain_list same_slot c.deref-then-word-ne0.result.now in
    let no = plain_list same_slot c.in-If.no.items in
    let form : plain_statement same_slot c.args.s.now none
    ≡ choose e yes no none = matched_if same_slot c.args.s.now c.in-If.test c.in-If.yes c.in-If.no
    c.deref-then-word-ne0.result.now c.in-If.no.items none c.in-If.is c.deref-then-word-ne0.ensures.value refl in
    let F = subst (StatementsFit (length r.cells.items) (length r.vars.items)) form c.requires.fits in
    λ κs h. (search (rules, the_lemmas), (h, (F.1, c.requires.ready)))

pub statement-statements-requires-else-word-ne0 : goal.statement-statements-requires-else-word-ne0
statement-statements-requires-else-word-ne0 g t c =
    let r = c.args.self.now in
    let e = plain_expression same_slot c.in-If.test in
    let yes = plain_list same_slot c.in-If.yes.items in
    let no = plain_list same_slot c.deref-else-word-ne0.result.now in
    let form : plain_statement same_slot c.args.s.now none
    ≡ choose e yes no none = matched_if same_slot c.args.s.now c.in-If.test c.in-If.yes c.in-If.no c.in-If.yes.items
    c.deref-else-word-ne0.result.now none c.in-If.is refl c.deref-else-word-ne0.ensures.value in
    let F = subst (StatementsFit (length r.cells.items) (length r.vars.items)) form c.requires.fits in
    λ κs h. (search (rules, the_lemmas), (h, (F.2, c.requires.ready)))

pub statement-returns-in-While-clause-runs : goal.statement-returns-in-While-clause-runs
statement-returns-in-While-clause-runs g t c =
    let r = c.args.self.now in
    let e = plain_expression same_slot c.in-While.test in
    let body = plain_list same_slot c.deref.result.now in
    let form : plain_statement same_slot c.args.s.now none
    ≡ loop e body none = matched_while same_slot c.args.s.now c.in-While.test c.in-While.body c.deref.result.now none
    c.in-While.is c.deref.ensures.value in
    runs_from (loops r.left e (run body)) (run (plain_statement same_slot c.args.s.now none)) (λ w. w)
    (map (λ n. n.items) c.args.names.now) c.args.self.now c.repeat.new.self (g.K.Sink.log c.args.out.now)
    (g.K.Sink.log c.repeat.new.out) c.repeat.result
    (λ o w. ap (λ b. run b (state r o w)) form ∙ then_ended (loops r.left e (run body) (state r o w)))
    c.repeat.ensures.runs

pub statement-returns-then-word-ne0-clause-runs : goal.statement-returns-then-word-ne0-clause-runs
statement-returns-then-word-ne0-clause-runs g t c =
    let r = c.args.self.now in
    let e = plain_expression same_slot c.in-If.test in
    let yes = plain_list same_slot c.deref-then-word-ne0.result.now in
    let no = plain_list same_slot c.in-If.no.items in
    let form : plain_statement same_slot c.args.s.now none
    ≡ choose e yes no none = matched_if same_slot c.args.s.now c.in-If.test c.in-If.yes c.in-If.no
    c.deref-then-word-ne0.result.now c.in-If.no.items none c.in-If.is c.deref-then-word-ne0.ensures.value refl in
    let ne : value e r.vars.items r.cells.items ≢ 0 = λ z. c.if-word-ne0.true (c.word.ensures ∙ z) in
    runs_from (run yes) (run (plain_statement same_slot c.args.s.now none)) (λ w. w + (expression_nodes e + 1))
    (map (λ n. n.items) c.args.names.now) c.args.self.now c.statements.new.self (g.K.Sink.log c.args.out.now)
    (g.K.Sink.log c.statements.new.out) c.statements.result
    (λ o w. ap (λ b. run b (state r o w)) form ∙ then_ended
    (at_zero (value e r.vars.items r.cells.items) (run no (evaluated e (state r o w)))
    (run yes (evaluated e (state r o w)))) ∙ at_value (value e r.vars.items r.cells.items)
    (run no (evaluated e (state r o w))) (run yes (evaluated e (state r o w))) ne) c.statements.ensures.runs

pub statement-returns-else-word-ne0-clause-runs : goal.statement-returns-else-word-ne0-clause-runs
statement-returns-else-word-ne0-clause-runs g t c =
    let r = c.args.self.now in
    let e = plain_expression same_slot c.in-If.test in
    let yes = plain_list same_slot c.in-If.yes.items in
    let no = plain_list same_slot c.deref-else-word-ne0.result.now in
    let form : plain_statement same_slot c.args.s.now none
    ≡ choose e yes no none = matched_if same_slot c.args.s.now c.in-If.test c.in-If.yes c.in-If.no c.in-If.yes.items
    c.deref-else-word-ne0.result.now none c.in-If.is refl c.deref-else-word-ne0.ensures.value in
    let z : value e r.vars.items r.cells.items ≡ 0 = sym c.word.ensures ∙ c.if-word-ne0.false in
    runs_from (run no) (run (plain_statement same_slot c.args.s.now none)) (λ w. w + (expression_nodes e + 1))
    (map (λ n. n.items) c.args.names.now) c.args.self.now c.statements-else-word-ne0.new.self
    (g.K.Sink.log c.args.out.now) (g.K.Sink.log c.statements-else-word-ne0.new.out)
    c.statements-else-word-ne0.result
    (λ o w. ap (λ b. run b (state r o w)) form ∙ then_ended
    (at_zero (value e r.vars.items r.cells.items) (run no (evaluated e (state r o w)))
    (run yes (evaluated e (state r o w)))) ∙ ap (λ v.
    at_zero v (run no (evaluated e (state r o w))) (run yes (evaluated e (state r o w)))) z)
    c.statements-else-word-ne0.ensures.runs

pub statement-returns-in-Assign-clause-runs : goal.statement-returns-in-Assign-clause-runs
statement-returns-in-Assign-clause-runs g t c =
    let r = c.args.self.now in
    let to = c.in-Assign.to in
    let e = plain_expression same_slot c.in-Assign.value in
    let form : plain_statement same_slot c.args.s.now none
    ≡ assign to e none = ap (λ x. plain_statement same_slot x none) c.in-Assign.is
    ∙ assign_form same_slot to c.in-Assign.value none in
    runs_from (λ s. Ended (assigned to c.word-word.result s)) (run (plain_statement same_slot c.args.s.now none))
    (λ w. w + (expression_nodes e + 1)) (map (λ n. n.items) c.args.names.now) c.args.self.now c.assign.new.self
    (g.K.Sink.log c.args.out.now) (g.K.Sink.log c.assign.new.out) c.assign.result
    (λ o w. ap (λ b. run b (state r o w)) form ∙ ap (λ x. Ended (assigned to x (evaluated e (state r o w))))
    (sym c.word-word.ensures)) c.assign.ensures.runs

-- in the definition, an assignment with an index is an `assign_at` of its parts
at_form : (s : Stmt Slot) (to : Slot) (i e : Expr Slot) → s ≡ AssignAt to i e → plain_statement same_slot s none
    ≡ assign_at to (plain_expression same_slot i) (plain_expression same_slot e) none
at_form s to i e is = ap (λ x. plain_statement same_slot x none) is ∙ assign_at_form same_slot to i e none

pub statement-cell-k-requires-clause-array : goal.statement-cell-k-requires-clause-array
statement-cell-k-requires-clause-array g t c =
    let r = c.args.self.now in
    (subst (StatementsFit (length r.cells.items) (length r.vars.items))
    (at_form c.args.s.now c.in-AssignAt.to c.in-AssignAt.index c.in-AssignAt.value c.in-AssignAt.is)
    c.requires.fits).0

pub statement-cell-k-requires-clause-index : goal.statement-cell-k-requires-clause-index
statement-cell-k-requires-clause-index g t c =
    let r = c.args.self.now in
    (subst (StatementsFit (length r.cells.items) (length r.vars.items))
    (at_form c.args.s.now c.in-AssignAt.to c.in-AssignAt.index c.in-AssignAt.value c.in-AssignAt.is)
    c.requires.fits).1

pub statement-word-word-requires-in-AssignAt : goal.statement-word-word-requires-in-AssignAt
statement-word-word-requires-in-AssignAt g t c =
    let r = c.args.self.now in
    (subst (StatementsFit (length r.cells.items) (length r.vars.items))
    (at_form c.args.s.now c.in-AssignAt.to c.in-AssignAt.index c.in-AssignAt.value c.in-AssignAt.is)
    c.requires.fits).2

pub statement-returns-in-AssignAt-clause-runs : goal.statement-returns-in-AssignAt-clause-runs
statement-returns-in-AssignAt-clause-runs g t c =
    let r = c.args.self.now in
    let to = c.in-AssignAt.to in
    let i = plain_expression same_slot c.in-AssignAt.index in
    let e = plain_expression same_slot c.in-AssignAt.value in
    let form = at_form c.args.s.now to c.in-AssignAt.index c.in-AssignAt.value c.in-AssignAt.is in
    let k = c.cell-k.result in
    let word = c.word-word-in-AssignAt in
    let named : k ≡ indexed_cell to (value i r.vars.items r.cells.items) = c.cell-k.ensures.cell in
    runs_from (λ s. Ended (assigned (Cell k) word.result s)) (run (plain_statement same_slot c.args.s.now none))
    (λ w. w + (expression_nodes i + expression_nodes e + 1)) (map (λ n. n.items) c.args.names.now) c.args.self.now
    c.assign_cell.new.self (g.K.Sink.log c.args.out.now) (g.K.Sink.log c.assign_cell.new.out)
    c.assign_cell.result
    (λ o w.
    ap (λ b. run b (state r o w)) form
    ∙ ap (λ x. Ended (assigned (Cell x) (value e r.vars.items r.cells.items) (evaluated_both i e (state r o w))))
    (sym named)
    ∙ ap (λ x. Ended (assigned (Cell k) x (evaluated_both i e (state r o w)))) (sym word.ensures))
    c.assign_cell.ensures.runs
