use Rattle.std.proofs.Common.{arith, ap, length, ◌∙◌}
use Rattle.ft_static.specs.Form.{integer_form}
use Rattle.ft_norm.specs.Entries.{polynomial_form}
use Rattle.ft_norm.specs.Held.{polynomial}
use Rattle.ft_norm.proofs.Limits.{product_large, product_small}
use Rattle.ft_norm.proofs.HeldForms.{integer_within, made}
use Rattle.ft_norm.proofs.interner.Interner.mul.Goals as goal

pub alone-requires-clause-reach : goal.alone-requires-clause-reach
alone-requires-clause-reach c =
    let x = integer_within c.args.self.now c.args.a _ c.requires.first.found in
    let y = integer_within c.args.self.now c.args.b _ c.requires.second.found in
    omega (arith, x, y)

pub returns-then-not-is_small-clause-form : goal.returns-then-not-is_small-clause-form
returns-then-not-is_small-clause-form c =
    let fs = c.args.self.now in
    made c.alone.result c.alone.new.self _ _ (ap integer_form
    (product_large (polynomial fs c.args.a) (polynomial fs c.args.b) _ _ c.is_small.result
    (c.is_small.ensures.exact fs c.terms-p.ensures.over c.terms-q.ensures.over) c.if-not-is_small.true
    c.terms-p.ensures.form c.terms-q.ensures.form)) c.alone.ensures.form

pub integer-requires-clause-reach : goal.integer-requires-clause-reach
integer-requires-clause-reach c =
    let fs = c.args.self.now in
    rw c.as_slice.ensures (c.in_ok-product.ensures.reach fs (length fs) c.terms-p.ensures.over.reach
    c.terms-q.ensures.over.reach)

pub returns-clause-form : goal.returns-clause-form
returns-clause-form c =
    let fs = c.args.self.now in
    made c.integer.result c.integer.new.self _ _ (ap integer_form (ap (polynomial_form fs) c.as_slice.ensures
    ∙ product_small (polynomial fs c.args.a) (polynomial fs c.args.b) _ _ _ c.is_small.result
    (c.is_small.ensures.exact fs c.terms-p.ensures.over c.terms-q.ensures.over) c.if-not-is_small.false
    c.terms-p.ensures.form c.terms-q.ensures.form (c.in_ok-product.ensures.value fs))) c.integer.ensures.form
