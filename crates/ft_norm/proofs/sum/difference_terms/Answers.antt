use Rattle.std.proofs.Common.{◌∙◌, ap, arith}
use Rattle.ft_static.specs.NormalForm.{total}
use Rattle.ft_norm.specs.Entries.{polynomial_form, reach_of_terms}
use Rattle.ft_norm.specs.Terms.{terms_of}
use Rattle.ft_norm.proofs.Ordered.{terms_negated}
use Rattle.ft_norm.proofs.Sums.{negated_reach, form_negated}
use Rattle.ft_norm.proofs.sum.difference_terms.Goals as goal

pub add_terms-requires-clause-sum : goal.add_terms-requires-clause-sum
add_terms-requires-clause-sum c = rw c.in_ok-difference.ensures (terms_negated (terms_of c.args.q) c.requires.second)

pub returns-clause-value : goal.returns-clause-value
returns-clause-value c = λ fs. c.in_ok-add_terms.ensures.value fs
    ∙ ap (total (polynomial_form fs (terms_of c.args.p))) (ap (polynomial_form fs) c.in_ok-difference.ensures
    ∙ form_negated fs (terms_of c.args.q) c.requires.second)

pub returns-clause-reach : goal.returns-clause-reach
returns-clause-reach c = λ fs n h k. c.in_ok-add_terms.ensures.reach fs n (let e =
    ap (reach_of_terms fs) c.in_ok-difference.ensures in let r = negated_reach fs (terms_of c.args.q) in
    omega (arith, e, r, k)) h
