use Rattle.std.proofs.Common.{refl, ◌∙◌}
use Rattle.ft_rules.proofs.Chains.{passes_exit}
use Rattle.ft_rules.proofs.reads.two.Goals as goal

pub returns-in_err-first-clause-passes : goal.returns-in_err-first-clause-passes
returns-in_err-first-clause-passes c = λ fs next. passes_exit _ _ _ _ _ c.from_residual.ensures.1 refl
    (c.in_err-first.ensures.passes fs _)

pub returns-in_err-second-clause-passes : goal.returns-in_err-second-clause-passes
returns-in_err-second-clause-passes c = λ fs next.
    passes_exit _ _ _ _ _ c.from_residual-in_err-second.ensures.1 (c.in_ok-first.ensures.passes fs _)
    (c.in_err-second.ensures.passes fs _)

pub returns-in_err-need-clause-passes : goal.returns-in_err-need-clause-passes
returns-in_err-need-clause-passes c = λ fs next. passes_exit _ _ _ _ _ c.from_residual-in_err-need.ensures.1
    (c.in_ok-first.ensures.passes fs _ ∙ c.in_ok-second.ensures.passes fs _)
    ((rw c.are_coloured.ensures at c.in_err-need.ensures.passes) _)
