use Rattle.std.proofs.Common.{◌∙◌, lit<, sym}
use Rattle.ft_norm.specs.Terms.{terms_of}
use Rattle.ft_norm.proofs.Limits.{few, too_many}
use Rattle.ft_norm.proofs.Single.{degree_over, terms_over}
use Rattle.ft_norm.proofs.product.is_small.Goals as goal

pub returns-then-saturating_mul-gt-MONOMIALS-clause-exact : goal.returns-then-saturating_mul-gt-MONOMIALS-clause-exact
returns-then-saturating_mul-gt-MONOMIALS-clause-exact c = λ fs o w.
    too_many _ _ _ _ _ _ _ (terms_over fs (terms_of c.args.p) o
    ∙ sym c.len.ensures) (terms_over fs (terms_of c.args.q) w ∙ sym c.len-2.ensures) c.saturating_mul.ensures
    c.if-saturating_mul-gt-MONOMIALS.true

pub returns-clause-exact : goal.returns-clause-exact
returns-clause-exact c = λ fs o w.
    few _ _ _ _ _ _ _ _ _ _ _ (terms_over fs (terms_of c.args.p) o
    ∙ sym c.len.ensures) (terms_over fs (terms_of c.args.q) w ∙ sym c.len-2.ensures) c.saturating_mul.ensures
    c.if-saturating_mul-gt-MONOMIALS.false (lit< tt) c.saturating_add.ensures
    (c.degree_of.ensures ∙ sym (degree_over fs (terms_of c.args.p) o)) (c.degree_of-2.ensures
    ∙ sym (degree_over fs (terms_of c.args.q) w))
