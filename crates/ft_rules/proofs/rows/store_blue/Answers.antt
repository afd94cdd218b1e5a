use Rattle.ft_norm.proofs.Made.{updates-norm_upd}
use Rattle.std.proofs.Common.{refl, sym, ◌∙◌}
use Rattle.ft_rules.proofs.Chains.{does_commit, does_exit, does_stop}
use Rattle.ft_contexts.proofs.Kept.{keeps_itself}
use Rattle.ft_rules.proofs.rows.store_blue.Goals as goal

pub returns-in_err-address : goal.returns-in_err-address
returns-in_err-address c = λ o t. does_exit _ _ _ _ o _ _ _ c.from_residual.ensures.1 (refl)
    (c.in_err-address.ensures.passes c.args.forms.now _) (keeps_itself _) c.requires t

pub returns-in_err-pending_address : goal.returns-in_err-pending_address
returns-in_err-pending_address c = λ o t. does_exit _ _ _ _ o _ _ _ c.from_residual-in_err-pending_address.ensures.1
    (c.in_ok-address.ensures.passes c.args.forms.now _) (c.in_err-pending_address.ensures.passes c.args.forms.now _)
    (keeps_itself _) c.requires t

pub returns-in_err-need : goal.returns-in_err-need
returns-in_err-need c = λ o t. does_exit _ _ _ _ o _ _ _ c.from_residual-in_err-need.ensures.1
    (c.in_ok-address.ensures.passes c.args.forms.now _ ∙ c.in_ok-pending_address.ensures.passes c.args.forms.now _)
    ((rw c.same_integers.ensures at c.in_err-need.ensures.passes) _) (keeps_itself _) c.requires t

pub returns-in_err-need-2 : goal.returns-in_err-need-2
returns-in_err-need-2 c = λ o t. does_exit _ _ _ _ o _ _ _ c.from_residual-in_err-need-2.ensures.1
    (c.in_ok-address.ensures.passes c.args.forms.now _ ∙ c.in_ok-pending_address.ensures.passes c.args.forms.now _
    ∙ (rw c.same_integers.ensures at c.in_ok-need.ensures.passes) _)
    ((rw c.same_integers-2.ensures at c.in_err-need-2.ensures.passes) _) (keeps_itself _) c.requires t

pub returns-in_err-memory : goal.returns-in_err-memory
returns-in_err-memory c = λ o t. does_stop _ _ o _ _ _ c.from_residual-in_err-memory.ensures.1 c.upd.ensures.kept
    c.requires t

pub returns : goal.returns
returns c = λ o t.
    does_commit _ o c.args.forms.now c.upd.new.self c.args.context.now c.commit.new.self c.in_ok-memory.memory _
    (c.in_ok-address.ensures.passes c.args.forms.now _ ∙ c.in_ok-pending_address.ensures.passes c.args.forms.now _
    ∙ (rw c.same_integers.ensures at c.in_ok-need.ensures.passes) _
    ∙ (rw c.same_integers-2.ensures at c.in_ok-need-2.ensures.passes) _)
    (rw (sym (c.memory.ensures.form c.args.forms.now)) at c.in_ok-memory.ensures.form) (updates-norm_upd _ _ _)
    c.upd.ensures.kept c.requires t (c.commit.ensures.context _) (c.commit.ensures.held _) (c.commit.ensures.types o)
