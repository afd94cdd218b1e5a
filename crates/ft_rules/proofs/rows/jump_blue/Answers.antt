use Rattle.std.proofs.Common.{refl, ◌∙◌}
use Rattle.ft_rules.proofs.Chains.{does_exit, does_end}
use Rattle.ft_contexts.proofs.Kept.{keeps_itself}
use Rattle.ft_rules.proofs.rows.jump_blue.Goals as goal

pub returns-in_err-code_type-clause-row : goal.returns-in_err-code_type-clause-row
returns-in_err-code_type-clause-row g c = does_exit _ _ _ _ _ _ _ _ c.from_residual.ensures.1 (refl)
    (c.in_err-code_type.ensures.passes c.args.forms.now _) (keeps_itself _) c.requires.held c.requires.types

pub returns-in_err-d_type-clause-row : goal.returns-in_err-d_type-clause-row
returns-in_err-d_type-clause-row g c = does_exit _ _ _ _ _ _ _ _ c.from_residual-in_err-d_type.ensures.1
    (c.in_ok-code_type.ensures.passes c.args.forms.now _) (c.in_err-d_type.ensures.passes c.args.forms.now _)
    (keeps_itself _) c.requires.held c.requires.types

pub returns-in_err-need-clause-row : goal.returns-in_err-need-clause-row
returns-in_err-need-clause-row g c = does_exit _ _ _ _ _ _ _ _ c.from_residual-in_err-need.ensures.1
    (c.in_ok-code_type.ensures.passes c.args.forms.now _ ∙ c.in_ok-d_type.ensures.passes c.args.forms.now _)
    ((rw c.same_target.ensures at c.in_err-need.ensures.passes) _) (keeps_itself _) c.requires.held c.requires.types

pub returns-in_err-leads-clause-row : goal.returns-in_err-leads-clause-row
returns-in_err-leads-clause-row g c = does_exit _ _ _ _ _ _ _ _ c.from_residual-in_err-leads.ensures.1
    (c.in_ok-code_type.ensures.passes c.args.forms.now _ ∙ c.in_ok-d_type.ensures.passes c.args.forms.now _
    ∙ (rw c.same_target.ensures at c.in_ok-need.ensures.passes) _) (c.in_err-leads.ensures.passes _)
    c.leads.ensures.kept c.requires.held c.requires.types

pub returns-clause-row : goal.returns-clause-row
returns-clause-row g c = does_end _ _ _ _ _ (c.in_ok-code_type.ensures.passes c.args.forms.now _
    ∙ c.in_ok-d_type.ensures.passes c.args.forms.now _ ∙ (rw c.same_target.ensures at c.in_ok-need.ensures.passes) _
    ∙ c.in_ok-leads.ensures.passes _) c.leads.ensures.kept c.requires.held c.requires.types
