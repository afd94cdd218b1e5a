use Rattle.std.proofs.Common.{refl}
use Rattle.ft_rules.proofs.Chains.{does_exit, does_stop, does_note}
use Rattle.ft_contexts.proofs.Kept.{keeps_itself}
use Rattle.ft_rules.proofs.rows.claim.Goals as goal

pub returns-in_err-need : goal.returns-in_err-need
returns-in_err-need g c = does_exit _ _ _ _ _ _ _ _ c.from_residual.ensures.1 (refl)
    ((rw c.has_type.ensures at c.in_err-need.ensures.passes) _) (keeps_itself _) c.requires.held c.requires.types

pub returns-in_err-form : goal.returns-in_err-form
returns-in_err-form g c = does_stop _ _ _ _ _ _ c.from_residual-in_err-form.ensures.1 c.word.ensures.kept
    c.requires.held c.requires.types

pub returns : goal.returns
returns g c =
    does_note _ _ _ _ _ _ _ _ _ ((rw c.has_type.ensures at c.in_ok-need.ensures.passes) _) c.in_ok-form.ensures.form
    c.requires.base c.word.ensures.kept c.requires.held c.requires.types c.put.ensures.context c.put.ensures.held
    c.put.ensures.types
