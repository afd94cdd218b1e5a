use Rattle.std.proofs.Common.{refl, ◌∙◌}
use Rattle.ft_rules.proofs.Chains.{does_exit, does_stop, does_note}
use Rattle.ft_contexts.proofs.Kept.{keeps_itself}
use Rattle.ft_rules.proofs.rows.operate.Goals as goal

pub returns-in_err-first-clause-row : goal.returns-in_err-first-clause-row
returns-in_err-first-clause-row g c = λ o t. does_exit _ _ _ _ o _ _ _ c.from_residual.ensures.1 refl
    (c.in_err-first.ensures.passes c.args.forms.now _) (keeps_itself _) c.requires t

pub returns-in_err-second-clause-row : goal.returns-in_err-second-clause-row
returns-in_err-second-clause-row g c = λ o t. does_exit _ _ _ _ o _ _ _ c.from_residual-in_err-second.ensures.1
    (c.in_ok-first.ensures.passes c.args.forms.now _) (c.in_err-second.ensures.passes c.args.forms.now _)
    (keeps_itself _) c.requires t

pub returns-in_err-need-clause-row : goal.returns-in_err-need-clause-row
returns-in_err-need-clause-row g c = λ o t. does_exit _ _ _ _ o _ _ _ c.from_residual-in_err-need.ensures.1
    (c.in_ok-first.ensures.passes c.args.forms.now _ ∙ c.in_ok-second.ensures.passes c.args.forms.now _)
    ((rw c.same_colour.ensures at c.in_err-need.ensures.passes) _) (keeps_itself _) c.requires t

pub returns-in_err-form-clause-row : goal.returns-in_err-form-clause-row
returns-in_err-form-clause-row g c = λ o t. does_stop _ _ o _ _ _ c.from_residual-in_err-form.ensures.1
    c.op_within.ensures.kept c.requires
    t

pub returns-clause-row : goal.returns-clause-row
returns-clause-row g c = λ o t.
    does_note _ o _ _ _ _ _ _ _
    (c.in_ok-first.ensures.passes c.args.forms.now _ ∙ c.in_ok-second.ensures.passes c.args.forms.now _
    ∙ (rw c.same_colour.ensures at c.in_ok-need.ensures.passes) _)
    c.in_ok-form.ensures.form tt c.op_within.ensures.kept c.requires t c.put.ensures.context c.put.ensures.held
    c.put.ensures.types
