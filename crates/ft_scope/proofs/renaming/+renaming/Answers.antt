use Rattle.std.proofs.Common.{rules, ◌≡◌, ◌+◌, ◌++◌, ◌∷◌, [], Ok, sym, ap, ◌∙◌, append_assoc, subst}
use Rattle.std.specs.Vec.Iter.{into_iter_items}
use Rattle.ft_syntax.specs.Plain.{none, plain_statement, plain_list}
use Rattle.ft_syntax.specs.Syntax.{named}
use Rattle.ft_syntax.specs.Size.{statement_nodes}
use Rattle.ft_syntax.proofs.PlainForms.{list_empty, list_push}
use Rattle.ft_scope.specs.Scope.{renamed, misused}
use Rattle.ft_scope.specs.Size.{same_slot, StatementsFit}
use Rattle.ft_scope.specs.Held.{look}
use Rattle.ft_scope.proofs.Fits.{fits_follow}
use Rattle.ft_scope.proofs.Measures.{nodes_follow}
use Rattle.ft_scope.proofs.MisusedNames.{misused_follow, misuse_none, misuse_more, first_left, first_right, assign_fits}
use Rattle.ft_scope.proofs.MisusedNames.{assign_at_fits, choose_fits, assign_noted, assign_at_noted, loop_noted}
use Rattle.ft_scope.proofs.MisusedNames.{choose_noted}
use Rattle.ft_scope.proofs.Renames.{fails_front, renamed_push}
use Rattle.ft_scope.proofs.renaming.+renaming.Goals as goal

pub rename_statements-loop-s-init : goal.rename_statements-loop-s-init
rename_statements-loop-s-init t c =
    let nothing : plain_list same_slot c.in-Ok.out.items ≡ none = ap (plain_list same_slot) c.in-Ok.ensures.items
    ∙ list_empty same_slot in
    record {
      so_far = ap (renamed (look c.args.names.now)) (list_empty named) ∙ ap Ok (sym nothing);
      fits = λ k v h g. subst (StatementsFit k v) (sym nothing) tt;
      misuse = misuse_none (look c.args.names.now) c.args.misuse.now;
      nodes = ap statement_nodes nothing ∙ ap statement_nodes (sym (list_empty named));
      whole = search rules;
    }

pub rename_statements-returns-in-Err-clause-err : goal.rename_statements-returns-in-Err-clause-err
rename_statements-returns-in-Err-clause-err t c =
    let at = c.loop-s in
    fails_front (look c.args.names.now) c.args.all.items at.yielded (into_iter_items c.next.new.self) c.in-Some.s
    (plain_list same_slot at.out.items) c.in-Err.e
    (ap (λ v. at.yielded ++ v) (sym c.in-Some.ensures.steps.0) ∙ at.invariant.whole) at.invariant.so_far
    c.in-Err.ensures.err

pub rename_statements-loop-s-preserved : goal.rename_statements-loop-s-preserved
rename_statements-loop-s-preserved t c =
    let at = c.loop-s in
    let one = c.in-Ok-rename_statement.ensures in
    let old = c.in-Some.s in
    let new = c.in-Ok-rename_statement.s in
    let table = look c.args.names.now in
    let out = ap (plain_list same_slot) c.in-Ok-push.ensures.items ∙ list_push same_slot at.out.items new in
    record {
      so_far = renamed_push (look c.args.names.now) at.yielded old at.out.items new c.push.new.self.items
          at.invariant.so_far one.ok c.in-Ok-push.ensures.items;
      fits = λ k v h g.
          let parts = sym (ap (misused table) (list_push named at.yielded old)
          ∙ misused_follow table (plain_list named at.yielded) (plain_statement named old none)) ∙ g in
          subst (StatementsFit k v) (sym out) (fits_follow k v (plain_list same_slot at.out.items)
          (plain_statement same_slot new none)
          (at.invariant.fits k v h (first_left (misused table (plain_list named at.yielded))
          (misused table (plain_statement named old none)) parts))
          (one.fits k v h (first_right (misused table (plain_list named at.yielded))
          (misused table (plain_statement named old none)) parts)));
      misuse = misuse_more table c.args.misuse.now at.misuse c.rename_statement.new.misuse at.yielded old
          at.invariant.misuse one.misuse;
      nodes = ap statement_nodes out ∙ nodes_follow (plain_list same_slot at.out.items)
          (plain_statement same_slot new none)
          ∙ ap (λ k. k + statement_nodes (plain_statement same_slot new none)) at.invariant.nodes
          ∙ ap (λ k. statement_nodes (plain_list named at.yielded) + k) one.nodes
          ∙ sym (nodes_follow (plain_list named at.yielded) (plain_statement named old none))
          ∙ ap statement_nodes (sym (list_push named at.yielded old));
      whole = append_assoc at.yielded (old ∷ []) _ ∙ ap (λ v. at.yielded ++ v) (sym c.in-Some.ensures.steps.0)
          ∙ at.invariant.whole;
    }

pub rename_statement-returns-in_ok-value-in-Assign-clause-fits :
    goal.rename_statement-returns-in_ok-value-in-Assign-clause-fits
rename_statement-returns-in_ok-value-in-Assign-clause-fits t c = λ k v h g.
    assign_fits (look c.args.names.now) k v c.args.s g c.in-Assign.to c.in-Assign.value c.in_ok-to-in-Assign.to
    c.in_ok-value-in-Assign.value c.in-Assign.is
    c.in_ok-to-in-Assign.ensures.ok (c.in_ok-to-in-Assign.ensures.fits k v h)
    (c.in_ok-value-in-Assign.ensures.fits k v h)

pub rename_statement-returns-in_ok-value-in-AssignAt-clause-fits :
    goal.rename_statement-returns-in_ok-value-in-AssignAt-clause-fits
rename_statement-returns-in_ok-value-in-AssignAt-clause-fits t c = λ k v h g.
    assign_at_fits (look c.args.names.now) k v c.args.s g c.in-AssignAt.to c.in-AssignAt.index c.in-AssignAt.value
    c.in_ok-to-in-AssignAt.to c.in_ok-index-in-AssignAt.index c.in_ok-value-in-AssignAt.value c.in-AssignAt.is
    c.in_ok-to-in-AssignAt.ensures.ok (c.in_ok-to-in-AssignAt.ensures.fits k v h)
    (c.in_ok-index-in-AssignAt.ensures.fits k v h) (c.in_ok-value-in-AssignAt.ensures.fits k v h)

pub rename_statement-returns-in_ok-no-in-If-clause-fits : goal.rename_statement-returns-in_ok-no-in-If-clause-fits
rename_statement-returns-in_ok-no-in-If-clause-fits t c = λ k v h g.
    choose_fits (look c.args.names.now) k v c.args.s g c.in-If.test c.in-If.yes c.in-If.no c.in_ok-test-in-If.test
    c.in_ok-yes-in-If.yes c.in_ok-no-in-If.no c.in-If.is
    (c.in_ok-test-in-If.ensures.fits k v h) (c.in_ok-yes-in-If.ensures.fits k v h) (c.in_ok-no-in-If.ensures.fits k v h)

pub rename_statement-returns-in_ok-value-in-Assign-clause-misuse :
    goal.rename_statement-returns-in_ok-value-in-Assign-clause-misuse
rename_statement-returns-in_ok-value-in-Assign-clause-misuse t c =
    assign_noted (look c.args.names.now) c.args.s c.args.misuse.now c.in-Assign.to c.in-Assign.value _ _ c.in-Assign.is
    c.in_ok-to-in-Assign.ensures.misuse c.in_ok-value-in-Assign.ensures.misuse

pub rename_statement-returns-in_ok-value-in-AssignAt-clause-misuse :
    goal.rename_statement-returns-in_ok-value-in-AssignAt-clause-misuse
rename_statement-returns-in_ok-value-in-AssignAt-clause-misuse t c =
    assign_at_noted (look c.args.names.now) c.args.s c.args.misuse.now c.in-AssignAt.to c.in-AssignAt.index
    c.in-AssignAt.value _ _ _ c.in-AssignAt.is
    c.in_ok-to-in-AssignAt.ensures.misuse c.in_ok-index-in-AssignAt.ensures.misuse
    c.in_ok-value-in-AssignAt.ensures.misuse

pub rename_statement-returns-in_ok-body-in-While-clause-misuse :
    goal.rename_statement-returns-in_ok-body-in-While-clause-misuse
rename_statement-returns-in_ok-body-in-While-clause-misuse t c =
    loop_noted (look c.args.names.now) c.args.s c.args.misuse.now c.in-While.test c.in-While.body _ _ c.in-While.is
    c.in_ok-test-in-While.ensures.misuse c.in_ok-body-in-While.ensures.misuse

pub rename_statement-returns-in_ok-no-in-If-clause-misuse : goal.rename_statement-returns-in_ok-no-in-If-clause-misuse
rename_statement-returns-in_ok-no-in-If-clause-misuse t c =
    choose_noted (look c.args.names.now) c.args.s c.args.misuse.now c.in-If.test c.in-If.yes c.in-If.no _ _ _ c.in-If.is
    c.in_ok-test-in-If.ensures.misuse c.in_ok-yes-in-If.ensures.misuse c.in_ok-no-in-If.ensures.misuse
