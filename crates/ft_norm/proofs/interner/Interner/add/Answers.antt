use Rattle.std.proofs.Common.{◌∙◌, arith, ap, length, sym, Some}
use Rattle.std.proofs.lemmas.Bool.{eqb-true}
use Rattle.ft_static.specs.Form.{integer_form}
use Rattle.ft_norm.specs.Entries.{polynomial_form}
use Rattle.ft_norm.specs.Held.{polynomial}
use Rattle.ft_norm.specs.Terms.{AreOver, terms_of}
use Rattle.ft_norm.proofs.Limits.{empty_with_sum, sum_large, sum_small, sum_with_empty}
use Rattle.ft_norm.proofs.HeldForms.{integer_within, made}
use Rattle.ft_norm.proofs.interner.Interner.add.Goals as goal

pub returns-then-is_empty-clause-form : goal.returns-then-is_empty-clause-form
returns-then-is_empty-clause-form c =
    let fs = c.args.self.now in
    c.requires.first.found ∙ ap (λ p. Some (integer_form p))
    (sum_with_empty fs (polynomial fs c.args.a) (polynomial fs c.args.b) (terms_of c.terms-p.result)
    (terms_of c.terms-q.result) c.terms-p.ensures.over c.terms-p.ensures.count c.terms-p.ensures.form
    c.terms-q.ensures.form (eqb-true _ _ (sym c.is_empty.ensures ∙ c.if-is_empty.true)))

pub returns-then-is_empty-2-clause-form : goal.returns-then-is_empty-2-clause-form
returns-then-is_empty-2-clause-form c =
    let fs = c.args.self.now in
    c.requires.second.found ∙ ap (λ p. Some (integer_form p))
    (empty_with_sum fs (polynomial fs c.args.a) (polynomial fs c.args.b) (terms_of c.terms-p.result)
    (terms_of c.terms-q.result) c.terms-q.ensures.over c.terms-q.ensures.count c.terms-p.ensures.form
    c.terms-q.ensures.form (eqb-true _ _ (sym c.is_empty-2.ensures ∙ c.if-is_empty-2.true)))

pub returns-then-len-le-MONOMIALS-clause-form : goal.returns-then-len-le-MONOMIALS-clause-form
returns-then-len-le-MONOMIALS-clause-form c =
    let fs = c.args.self.now in
    let o : AreOver fs c.in_ok-sum.sum.items = record {
      terms = c.in_ok-sum.ensures.terms;
      distinct = c.terms-p.ensures.over.distinct;
      reach =
          c.in_ok-sum.ensures.reach fs (length fs) c.terms-p.ensures.over.reach c.terms-q.ensures.over.reach;
    } in
    made c.integer.result c.integer.new.self _ _
    (ap integer_form (ap (polynomial_form fs) c.as_slice.ensures
    ∙ sum_small fs (polynomial fs c.args.a) (polynomial fs c.args.b) _ _ c.in_ok-sum.sum.items o
    (c.in_ok-sum.ensures.value fs) c.terms-p.ensures.form c.terms-q.ensures.form (omega (
      arith,
      c.len.ensures.value,
      c.if-len-le-MONOMIALS.true,
    )))) c.integer.ensures.form

pub alone-requires-clause-reach : goal.alone-requires-clause-reach
alone-requires-clause-reach c =
    let x = integer_within c.args.self.now c.args.a _ c.requires.first.found in
    let y = integer_within c.args.self.now c.args.b _ c.requires.second.found in
    omega (arith, x, y)

pub returns-clause-form : goal.returns-clause-form
returns-clause-form c =
    let fs = c.args.self.now in
    let o : AreOver fs c.in_ok-sum.sum.items = record {
      terms = c.in_ok-sum.ensures.terms;
      distinct = c.terms-p.ensures.over.distinct;
      reach =
          c.in_ok-sum.ensures.reach fs (length fs) c.terms-p.ensures.over.reach c.terms-q.ensures.over.reach;
    } in
    made c.alone.result c.alone.new.self _ _
    (ap integer_form (sum_large fs (polynomial fs c.args.a) (polynomial fs c.args.b) _ _ c.in_ok-sum.sum.items o
    (c.in_ok-sum.ensures.value fs) c.terms-p.ensures.form c.terms-q.ensures.form (omega (
      arith,
      c.len.ensures.value,
      c.if-len-le-MONOMIALS.false,
    )))) c.alone.ensures.form
