use Rattle.std.proofs.Common.{refl}
use Rattle.ft_rules.proofs.Chains.{passes_exit}
use Rattle.ft_rules.proofs.reads.one.Goals as goal

pub returns-in_err-known-clause-passes : goal.returns-in_err-known-clause-passes
returns-in_err-known-clause-passes c = λ fs next. passes_exit _ _ _ _ _ c.from_residual.ensures.1 refl
    (c.in_err-known.ensures.passes fs _)

pub returns-in_err-need-clause-passes : goal.returns-in_err-need-clause-passes
returns-in_err-need-clause-passes c = λ fs next. passes_exit _ _ _ _ _ c.from_residual-in_err-need.ensures.1
    (c.in_ok-known.ensures.passes fs _) ((rw c.same_colour.ensures at c.in_err-need.ensures.passes) _)
