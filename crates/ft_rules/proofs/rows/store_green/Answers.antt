use Rattle.ft_contexts.specs.Contexts.{pair_in}
use Rattle.std.proofs.Common.{refl, sym, ap, ◌∙◌}
use Rattle.ft_typing.specs.RowWords.{Goes}
use Rattle.ft_contexts.proofs.Kept.{keeps_itself}
use Rattle.ft_rules.proofs.Chains.{grows_pair, does_go, does_exit, does_stop}
use Rattle.ft_rules.proofs.rows.store_green.Goals as goal

pub returns-in_err-pair : goal.returns-in_err-pair
returns-in_err-pair c = λ o t. does_exit _ _ _ _ o _ _ _ c.from_residual.ensures.1 (refl)
    (c.in_err-pair.ensures.passes c.args.forms.now _) (keeps_itself _) c.requires t

pub returns-in_err-need : goal.returns-in_err-need
returns-in_err-need c = λ o t. does_exit _ _ _ _ o _ _ _ c.from_residual-in_err-need.ensures.1
    (c.in_ok-pair.ensures.passes c.args.forms.now _)
    ((rw (sym (c.queue_len.ensures.pairs c.args.forms.now)) at c.in_err-need.ensures.passes) _) (keeps_itself _)
    c.requires t

pub returns-in_err-pend : goal.returns-in_err-pend
returns-in_err-pend c = λ o t. rw c.in_err-pend.ensures.err (does_stop _ _ o _ _ _ c.from_residual-in_err-pend.ensures.1
    (keeps_itself _) c.requires t)

pub returns : goal.returns
returns c = λ o t.
    does_go _ o _ _ _ _
    (c.in_ok-pair.ensures.passes c.args.forms.now _
    ∙ (rw (sym (c.queue_len.ensures.pairs c.args.forms.now)) at c.in_ok-need.ensures.passes) _
    ∙ ap Goes (sym (c.in_ok-pend.ensures.context c.args.forms.now)))
    (keeps_itself _) (c.in_ok-pend.ensures.held c.args.forms.now c.requires
    (c.in_ok-pair.ensures.held c.args.forms.now c.requires)) (c.in_ok-pend.ensures.types o t)
    (grows_pair c.args.forms.now c.args.context.now c.pend.new.self (pair_in c.args.forms.now c.in_ok-pair.pair)
    c.queue_len.result (c.in_ok-pend.ensures.context c.args.forms.now) (c.queue_len.ensures.pairs c.args.forms.now)
    c.in_ok-need.ensures.holds)
