use Rattle.std.proofs.Common.{refl, ◌∙◌}
use Rattle.ft_rules.proofs.Chains.{grows_same, does_exit, does_go}
use Rattle.ft_contexts.proofs.Kept.{keeps_itself}
use Rattle.std.proofs.Common.{ap, length, sym}
use Rattle.ft_static.specs.Form.{updates}
use Rattle.ft_typing.specs.Context.{Context as Defined, d_zero}
use Rattle.ft_typing.specs.RowWords.{Goes}
use Rattle.ft_contexts.proofs.Kept.{forms_kept, context_stays}
use Rattle.ft_rules.proofs.rows.branch_blue.Goals as goal

pub returns-in_err-test-clause-row : goal.returns-in_err-test-clause-row
returns-in_err-test-clause-row g c = does_exit _ _ _ _ _ _ _ _ c.from_residual.ensures.1 (refl)
    (c.in_err-test.ensures.passes c.args.forms.now _) (keeps_itself _) c.requires.held c.requires.types

pub returns-in_err-d_test-clause-row : goal.returns-in_err-d_test-clause-row
returns-in_err-d_test-clause-row g c = does_exit _ _ _ _ _ _ _ _ c.from_residual-in_err-d_test.ensures.1
    (c.in_ok-test.ensures.passes c.args.forms.now _) (c.in_err-d_test.ensures.passes c.args.forms.now _)
    (keeps_itself _) c.requires.held c.requires.types

pub returns-in_err-need-clause-row : goal.returns-in_err-need-clause-row
returns-in_err-need-clause-row g c = does_exit _ _ _ _ _ _ _ _ c.from_residual-in_err-need.ensures.1
    (c.in_ok-test.ensures.passes c.args.forms.now _ ∙ c.in_ok-d_test.ensures.passes c.args.forms.now _)
    ((rw c.same_integers.ensures at c.in_err-need.ensures.passes) _) (keeps_itself _) c.requires.held c.requires.types

pub returns-in_err-need-2-clause-row : goal.returns-in_err-need-2-clause-row
returns-in_err-need-2-clause-row g c = does_exit _ _ _ _ _ _ _ _ c.from_residual-in_err-need-2.ensures.1
    (c.in_ok-test.ensures.passes c.args.forms.now _ ∙ c.in_ok-d_test.ensures.passes c.args.forms.now _
    ∙ (rw c.same_integers.ensures at c.in_ok-need.ensures.passes) _)
    ((rw c.same_target.ensures at c.in_err-need-2.ensures.passes) _) (keeps_itself _) c.requires.held c.requires.types

pub returns-in_err-leads-clause-row : goal.returns-in_err-leads-clause-row
returns-in_err-leads-clause-row g c = does_exit _ _ _ _ _ _ _ _ c.from_residual-in_err-leads.ensures.1
    (c.in_ok-test.ensures.passes c.args.forms.now _ ∙ c.in_ok-d_test.ensures.passes c.args.forms.now _
    ∙ (rw c.same_integers.ensures at c.in_ok-need.ensures.passes) _
    ∙ (rw c.same_target.ensures at c.in_ok-need-2.ensures.passes) _) (c.in_err-leads.ensures.passes _)
    c.leads.ensures.kept c.requires.held c.requires.types

pub returns-clause-row : goal.returns-clause-row
returns-clause-row g c =
    let h = forms_kept _ _ _ c.leads.ensures.kept c.requires.held in
    let e = context_stays _ _ _ c.leads.ensures.kept c.requires.held in
    let after = c.put_d.ensures.context c.leads.new.forms ∙ ap (λ (k : Defined). record k { d = d_zero }) e in
    does_go _ _ _ _ _ _
    (c.in_ok-test.ensures.passes c.args.forms.now _ ∙ c.in_ok-d_test.ensures.passes c.args.forms.now _
    ∙ (rw c.same_integers.ensures at c.in_ok-need.ensures.passes) _
    ∙ (rw c.same_target.ensures at c.in_ok-need-2.ensures.passes) _ ∙ c.in_ok-leads.ensures.passes _
    ∙ ap Goes (sym after))
    c.leads.ensures.kept (c.put_d.ensures.held _ h tt) (c.put_d.ensures.types _ c.requires.types tt)
    (grows_same c.args.forms.now c.leads.new.forms c.args.context.now c.put_d.new.self c.leads.ensures.kept
    c.requires.held (ap (λ (k : Defined). updates k.memory) (c.put_d.ensures.context c.leads.new.forms))
    (ap (λ (k : Defined). length k.queue) (c.put_d.ensures.context c.leads.new.forms)))
