use Rattle.std.proofs.Common.{refl, ◌∙◌}
use Rattle.ft_rules.proofs.Chains.{passes_exit}
use Rattle.ft_rules.proofs.reads.jumped.Goals as goal

pub returns-in_err-target-clause-passes : goal.returns-in_err-target-clause-passes
returns-in_err-target-clause-passes c = λ fs next.
    passes_exit _ _ _ _ _ c.from_residual.ensures.1 refl (c.in_err-target.ensures.passes fs _)

pub returns-in_err-code_type-clause-passes : goal.returns-in_err-code_type-clause-passes
returns-in_err-code_type-clause-passes c = λ fs next.
    passes_exit _ _ _ _ _ c.from_residual-in_err-code_type.ensures.1 (c.in_ok-target.ensures.passes fs _)
    (c.in_err-code_type.ensures.passes _)

pub returns-clause-passes : goal.returns-clause-passes
returns-clause-passes c = λ fs next. c.in_ok-target.ensures.passes fs _ ∙ c.in_ok-code_type.ensures.passes _

pub returns-clause-types : goal.returns-clause-types
returns-clause-types c = λ o h. c.in_ok-code_type.ensures.named _ (c.in_ok-target.ensures.types o h)
