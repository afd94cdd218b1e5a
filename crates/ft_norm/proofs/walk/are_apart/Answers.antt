use Rattle.std.proofs.Common.{◌∙◌, sym}
use Rattle.ft_norm.specs.Terms.{terms_of}
use Rattle.ft_norm.proofs.Apart.{by_others, not_apart}
use Rattle.ft_norm.proofs.walk.are_apart.Goals as goal

pub returns-then-constant_among : goal.returns-then-constant_among
returns-then-constant_among c = λ fs a b.
    not_apart fs (terms_of c.args.p) (terms_of c.args.q) a b (λ n s.
    n (sym c.constant_among.ensures ∙ (c.if-constant_among.true ∙ c.constant_among-2.ensures)))

pub returns : goal.returns
returns c = λ fs a b.
    by_others fs (terms_of c.args.p) (terms_of c.args.q) a b c.are_same.result
    (λ e. c.if-constant_among.false (c.constant_among.ensures ∙ (e ∙ sym c.constant_among-2.ensures)))
    (rw (c.others.ensures.terms, c.others-2.ensures.terms) at c.are_same.ensures)
