use Rattle.std.proofs.Common.{◌≡◌, ◌∙◌, arith, ap, length, sym, Some}
use Rattle.std.proofs.lemmas.Bool.{eqb-true}
use Rattle.std.proofs.lemmas.List.{length-map}
use Rattle.ft_isa.specs.declared.op.Op.TheVariants.{Add}
use Rattle.ft_static.specs.Form.{integer_form, operation_atom}
use Rattle.ft_static.specs.NormalForm.{alone, negation}
use Rattle.ft_norm.specs.Entries.{polynomial_form}
use Rattle.ft_norm.specs.Held.{polynomial, polynomial_at}
use Rattle.ft_norm.specs.Terms.{AreOver, negated_term, terms_of}
use Rattle.ft_norm.proofs.Limits.{less_empty, sum_large, sum_small}
use Rattle.ft_norm.proofs.Ordered.{terms_negated}
use Rattle.ft_norm.proofs.HeldForms.{integer_within, made, polynomial_found}
use Rattle.ft_norm.proofs.Sums.{form_negated, negated_reach}
use Rattle.ft_norm.proofs.interner.Interner.sub.Goals as goal

pub returns-then-is_empty-clause-form : goal.returns-then-is_empty-clause-form
returns-then-is_empty-clause-form c =
    let fs = c.args.self.now in
    c.requires.first.found ∙ ap (λ p. Some (integer_form p))
    (less_empty fs (polynomial fs c.args.a) (polynomial fs c.args.b) (terms_of c.terms-p.result)
    (terms_of c.terms-q.result) c.terms-p.ensures.over c.terms-p.ensures.count c.terms-p.ensures.form
    c.terms-q.ensures.form (eqb-true _ _ (sym c.is_empty.ensures ∙ c.if-is_empty.true)))

pub returns-then-len-le-MONOMIALS-clause-form : goal.returns-then-len-le-MONOMIALS-clause-form
returns-then-len-le-MONOMIALS-clause-form c =
    let fs = c.args.self.now in
    let o : AreOver fs c.in_ok-difference.difference.items = record {
      terms = c.in_ok-difference.ensures.terms;
      distinct = c.terms-p.ensures.over.distinct;
      reach =
          c.in_ok-difference.ensures.reach fs (length fs) c.terms-p.ensures.over.reach c.terms-q.ensures.over.reach;
    } in
    made c.integer.result c.integer.new.self _ _
    (ap integer_form (ap (polynomial_form fs) c.as_slice.ensures
    ∙ sum_small fs (polynomial fs c.args.a) (negation (polynomial fs c.args.b)) _ _
    c.in_ok-difference.difference.items o (c.in_ok-difference.ensures.value fs) c.terms-p.ensures.form
    (ap negation c.terms-q.ensures.form) (omega (arith, c.len.ensures.value, c.if-len-le-MONOMIALS.true))))
    c.integer.ensures.form

pub integer-requires-2-clause-terms : goal.integer-requires-2-clause-terms
integer-requires-2-clause-terms c = rw (
  c.as_slice-2.ensures,
  c.in_ok-negated.ensures,
) (terms_negated (terms_of c.terms-q.result) c.terms-q.ensures.over.terms)

pub integer-requires-2-clause-reach : goal.integer-requires-2-clause-reach
integer-requires-2-clause-reach c = let e = negated_reach c.args.self.now (terms_of c.terms-q.result) in
    rw (c.as_slice-2.ensures, c.in_ok-negated.ensures) (omega (arith, e, c.terms-q.ensures.over.reach))

pub integer-requires-2-clause-count : goal.integer-requires-2-clause-count
integer-requires-2-clause-count c = rw (
  c.as_slice-2.ensures,
  c.in_ok-negated.ensures,
  length-map (terms_of c.terms-q.result) negated_term,
) c.terms-q.ensures.count

pub alone-requires-clause-reach : goal.alone-requires-clause-reach
alone-requires-clause-reach c =
    let x = integer_within c.integer-2.new.self c.args.a _
    (c.in_ok-negation.ensures.kept.forms_stay c.args.a _ c.requires.first.found) in
    let y = integer_within c.integer-2.new.self c.in_ok-negation.negation _ c.in_ok-negation.ensures.form in
    omega (arith, x, y)

pub returns-clause-form : goal.returns-clause-form
returns-clause-form c =
    let fs = c.args.self.now in
    let o : AreOver fs c.in_ok-difference.difference.items = record {
      terms = c.in_ok-difference.ensures.terms;
      distinct = c.terms-p.ensures.over.distinct;
      reach =
          c.in_ok-difference.ensures.reach fs (length fs) c.terms-p.ensures.over.reach c.terms-q.ensures.over.reach;
    } in
    let p : polynomial_at c.integer-2.new.self c.args.a.0
    ≡ polynomial fs c.args.a = polynomial_found c.integer-2.new.self c.args.a.0 _
    (c.in_ok-negation.ensures.kept.forms_stay c.args.a _ c.requires.first.found) in
    let n = ap (polynomial_form fs) (c.as_slice-2.ensures ∙ c.in_ok-negated.ensures)
    ∙ form_negated fs (terms_of c.terms-q.result) c.terms-q.ensures.over.terms in
    let q : polynomial_at c.integer-2.new.self c.in_ok-negation.negation.0 ≡ negation (polynomial fs c.args.b) =
    polynomial_found c.integer-2.new.self c.in_ok-negation.negation.0 _ c.in_ok-negation.ensures.form
    ∙ (n ∙ ap negation c.terms-q.ensures.form) in
    made c.alone.result c.alone.new.self _ _
    (ap integer_form (ap (λ x. alone (operation_atom Add x
    (polynomial_at c.integer-2.new.self c.in_ok-negation.negation.0))) p
    ∙ (ap (λ y. alone (operation_atom Add (polynomial fs c.args.a) y)) q
    ∙ sum_large fs (polynomial fs c.args.a) (negation (polynomial fs c.args.b)) _ _ c.in_ok-difference.difference.items
    o (c.in_ok-difference.ensures.value fs) c.terms-p.ensures.form (ap negation c.terms-q.ensures.form)
    (omega (arith, c.len.ensures.value, c.if-len-le-MONOMIALS.false))))) c.alone.ensures.form
