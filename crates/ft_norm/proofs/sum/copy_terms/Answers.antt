use Rattle.std.proofs.Common.{◌∙◌, arith}
use Rattle.ft_norm.specs.Terms.{terms_of}
use Rattle.ft_norm.proofs.Sums.{taken_more}
use Rattle.ft_norm.proofs.sum.copy_terms.Goals as goal

pub loop-i-preserved : goal.loop-i-preserved
loop-i-preserved c = c.in_ok-push.ensures.ok ∙ taken_more (terms_of c.args.terms) c.loop-i.copies.items
    c.term-term.result c.loop-i.i c.loop-i.invariant (omega (arith, c.loop-i-test.true, c.len-i-end.ensures))
    c.term-term.ensures
