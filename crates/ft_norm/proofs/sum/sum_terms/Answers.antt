use Rattle.std.proofs.Common.{◌∙◌, ap}
use Rattle.ft_static.specs.NormalForm.{total}
use Rattle.ft_norm.specs.Entries.{polynomial_form}
use Rattle.ft_norm.specs.Terms.{terms_of}
use Rattle.ft_norm.proofs.sum.sum_terms.Goals as goal

pub add_terms-requires-clause-sum : goal.add_terms-requires-clause-sum
add_terms-requires-clause-sum c = rw c.in_ok-sum.ensures c.requires.second

pub returns-clause-value : goal.returns-clause-value
returns-clause-value c = λ fs. c.in_ok-add_terms.ensures.value fs
    ∙ ap (λ ts. total (polynomial_form fs (terms_of c.args.p)) (polynomial_form fs ts)) c.in_ok-sum.ensures

pub returns-clause-reach : goal.returns-clause-reach
returns-clause-reach c = λ fs n h k. c.in_ok-add_terms.ensures.reach fs n (rw c.in_ok-sum.ensures k) h
