use Rattle.std.proofs.Common.{◌∙◌, ap, arith, max}
use Rattle.ft_norm.specs.Terms.{terms_of}
use Rattle.ft_norm.proofs.Single.{greatest_more}
use Rattle.ft_norm.proofs.terms.degree_of.Goals as goal

pub loop-i-preserved : goal.loop-i-preserved
loop-i-preserved c =
    c.max-most.ensures ∙ (ap (max c.loop-i.most) c.degree.ensures
    ∙ greatest_more (terms_of c.args.terms) c.term-term.result c.loop-i.i c.loop-i.most
    (omega (arith, c.loop-i-test.true, c.len-i-end.ensures)) c.term-term.ensures c.loop-i.invariant)
