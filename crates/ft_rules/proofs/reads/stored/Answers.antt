use Rattle.std.proofs.Common.{refl, ◌∙◌}
use Rattle.ft_rules.proofs.Chains.{passes_exit}
use Rattle.ft_rules.proofs.reads.stored.Goals as goal

pub returns-in_err-address-clause-passes : goal.returns-in_err-address-clause-passes
returns-in_err-address-clause-passes c = λ fs next.
    passes_exit _ _ _ _ _ c.from_residual.ensures.1 refl (c.in_err-address.ensures.passes fs _)

pub returns-in_err-cell-clause-passes : goal.returns-in_err-cell-clause-passes
returns-in_err-cell-clause-passes c = λ fs next. passes_exit _ _ _ _ _ c.from_residual-in_err-cell.ensures.1
    (c.in_ok-address.ensures.passes fs _) (c.in_err-cell.ensures.passes _)

pub returns-in_err-need-clause-passes : goal.returns-in_err-need-clause-passes
returns-in_err-need-clause-passes c = λ fs next. passes_exit _ _ _ _ _ c.from_residual-in_err-need.ensures.1
    (c.in_ok-address.ensures.passes fs _ ∙ c.in_ok-cell.ensures.passes _)
    ((rw c.is_seen_as.ensures at c.in_err-need.ensures.passes) _)

pub returns-clause-passes : goal.returns-clause-passes
returns-clause-passes c = λ fs next. c.in_ok-address.ensures.passes fs _ ∙ c.in_ok-cell.ensures.passes _
    ∙ (rw c.is_seen_as.ensures at c.in_ok-need.ensures.passes) _
