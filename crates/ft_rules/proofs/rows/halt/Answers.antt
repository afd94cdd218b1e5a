use Rattle.std.proofs.Common.{refl, ◌∙◌}
use Rattle.ft_contexts.specs.Contexts.{context_in}
use Rattle.ft_contexts.proofs.Kept.{keeps_itself}
use Rattle.ft_rules.proofs.Chains.{empty_is, does_exit, does_end}
use Rattle.ft_rules.proofs.rows.halt.Goals as goal

pub returns-in_err-zero : goal.returns-in_err-zero
returns-in_err-zero c = λ o t. does_exit _ _ _ _ o _ _ _ c.from_residual.ensures.1 refl
    (c.in_err-zero.ensures c.args.forms.now _) (keeps_itself _) c.requires t

pub returns-in_err-need : goal.returns-in_err-need
returns-in_err-need c = λ o t.
    does_exit _ _ _ _ o _ _ _ c.from_residual-in_err-need.ensures.1
    (c.in_ok-zero.ensures c.args.forms.now _)
    ((rw (empty_is (context_in c.args.forms.now c.args.context.now).queue c.queue_len.result
    (c.queue_len.ensures.pairs c.args.forms.now)) at c.in_err-need.ensures.passes) _) (keeps_itself _) c.requires t

pub returns : goal.returns
returns c = λ o t.
    does_end _ o _ _ _
    (c.in_ok-zero.ensures c.args.forms.now _
    ∙ (rw (empty_is (context_in c.args.forms.now c.args.context.now).queue c.queue_len.result
    (c.queue_len.ensures.pairs c.args.forms.now)) at c.in_ok-need.ensures.passes) _)
    (keeps_itself _) c.requires t
