use Rattle.std.proofs.Common.{◌≡◌, ◌∙◌, length, sym, subst, arith}
use Rattle.ft_embed.specs.Trials.{IsListRefused}
use Rattle.ft_embed.proofs.Tried.{list_much}
use Rattle.ft_embed.proofs.trying.try_list.Goals as goal

pub returns-in-Err-clause-bad_list : goal.returns-in-Err-clause-bad_list
returns-in-Err-clause-bad_list g c = λ h. c.refuse_list.ensures.told c.args.trial.list.now c.args.trial.steps
    c.in-Err.ensures.err h

pub returns-then-product-gt-PRODUCT_LIMIT-clause-bad_list : goal.returns-then-product-gt-PRODUCT_LIMIT-clause-bad_list
returns-then-product-gt-PRODUCT_LIMIT-clause-bad_list g c = λ _.
    let count : c.len-count.result ≡ length c.in-Ok.faults.items = omega (
      arith,
      c.len-count.ensures,
      c.in-Ok.faults.ok,
    ) in
    subst (IsListRefused c.args.trial.list.now c.args.trial.steps) (sym (c.not_tried.ensures.why ∙ c.told_list.ensures))
    (list_much c.args.trial.list.now c.in-Ok.faults.items c.args.trial.steps c.len-count.result c.in-Ok.ensures.ok count
    c.if-product-gt-PRODUCT_LIMIT.true)
