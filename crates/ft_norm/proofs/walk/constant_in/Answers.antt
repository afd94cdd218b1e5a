use Rattle.std.proofs.Common.{◌∙◌, arith, sym}
use Rattle.std.proofs.lemmas.Bool.{eqb-false}
use Rattle.ft_norm.specs.Terms.{terms_of}
use Rattle.ft_norm.proofs.Single.{many_constant}
use Rattle.ft_norm.proofs.walk.constant_in.Goals as goal

pub returns-then-len-ne1 : goal.returns-then-len-ne1
returns-then-len-ne1 c = λ fs o.
    let n = eqb-false _ _ (sym c.is_empty.ensures ∙ c.if-is_empty.false) in
    many_constant fs (terms_of c.args.terms) o (omega (arith, n, c.if-len-ne1.true, c.len.ensures))
