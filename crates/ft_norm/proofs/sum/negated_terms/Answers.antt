use Rattle.std.proofs.Common.{[], ◌∷◌, ◌++◌, ◌∙◌, ap, arith}
use Rattle.ft_norm.specs.declared.entry.Term.{Term}
use Rattle.ft_norm.specs.Terms.{terms_of}
use Rattle.ft_norm.proofs.Sums.{negated_more}
use Rattle.ft_norm.proofs.sum.negated_terms.Goals as goal

pub loop-i-preserved : goal.loop-i-preserved
loop-i-preserved c =
    c.in_ok-push.ensures.ok ∙ (ap (λ (t : Term). c.loop-i.negation.items ++ t ∷ []) c.negated.ensures
    ∙ negated_more (terms_of c.args.terms) c.loop-i.negation.items c.term-term.result c.loop-i.i c.loop-i.invariant
    (omega (arith, c.loop-i-test.true, c.len-i-end.ensures)) c.term-term.ensures)
