use Rattle.std.proofs.Common.{length}
use Rattle.ft_static.specs.Form.{updates}
use Rattle.ft_typing.specs.Context.{Context as Defined}
use Rattle.std.proofs.Common.{refl, sym, ap, ◌∙◌}
use Rattle.ft_typing.specs.RowWords.{Goes}
use Rattle.ft_contexts.proofs.Kept.{keeps_itself}
use Rattle.ft_rules.proofs.Chains.{grows_same, does_exit, does_go}
use Rattle.ft_rules.proofs.rows.branch_green.Goals as goal

pub returns-in_err-test : goal.returns-in_err-test
returns-in_err-test c = λ o t. does_exit _ _ _ _ o _ _ _ c.from_residual.ensures.1 (refl)
    (c.in_err-test.ensures.passes c.args.forms.now _) (keeps_itself _) c.requires t

pub returns-in_err-zero : goal.returns-in_err-zero
returns-in_err-zero c = λ o t. does_exit _ _ _ _ o _ _ _ c.from_residual-in_err-zero.ensures.1
    (c.in_ok-test.ensures.passes c.args.forms.now _) (c.in_err-zero.ensures c.args.forms.now _) (keeps_itself _)
    c.requires t

pub returns : goal.returns
returns c = λ o t.
    does_go _ o _ _ _ _
    (c.in_ok-test.ensures.passes c.args.forms.now _ ∙ c.in_ok-zero.ensures c.args.forms.now _
    ∙ ap Goes (sym (c.put_d.ensures.context c.args.forms.now)))
    (keeps_itself _) (c.put_d.ensures.held c.args.forms.now c.requires
    (c.in_ok-test.ensures.held c.args.forms.now c.requires))
    (c.put_d.ensures.types o t (c.in_ok-test.ensures.types o t))
    (grows_same c.args.forms.now c.args.forms.now c.args.context.now c.put_d.new.self (keeps_itself _) c.requires
    (ap (λ (k : Defined). updates k.memory) (c.put_d.ensures.context c.args.forms.now))
    (ap (λ (k : Defined). length k.queue) (c.put_d.ensures.context c.args.forms.now)))
