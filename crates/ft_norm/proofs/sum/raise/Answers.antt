use Rattle.std.proofs.Common.{◌∙◌, ◌+◌, ◌%◌, ◌^◌, List, ap, get_or, arith, lit<}
use Rattle.std.proofs.Math.Nat.{mod-lt}
use Rattle.std.proofs.lemmas.List.{get_or_default}
use Rattle.ft_norm.specs.Entries.{polynomial_form, reach_of_atoms}
use Rattle.ft_norm.specs.declared.entry.Term.{Term}
use Rattle.ft_norm.proofs.Ordered.{positive, terms_remove, terms_set}
use Rattle.ft_norm.proofs.Sums.{form_remove, form_set, reach-remove, reach-set, set_filled, term_reach}
use Rattle.ft_norm.proofs.sum.raise.Goals as goal
use Rattle.ft_norm.proofs.Packing.{blank}

pub returns-then-vanishes-clause-value : goal.returns-then-vanishes-clause-value
returns-then-vanishes-clause-value c = λ fs t.
    let xs = c.args.sum.now.items in
    let z = ap (λ (u : Term). (c.args.coefficient + u.coefficient) % 2 ^ 64)
    (get_or_default xs c.args.i t blank c.requires.within) ∙ (rw c.deref.ensures at c.if-vanishes.true) in
    ap (polynomial_form fs) c.remove.ensures.items
    ∙ form_remove fs xs c.args.i t c.args.coefficient c.requires.terms c.requires.within c.ranges.coefficient.fits z

pub returns-then-vanishes-clause-terms : goal.returns-then-vanishes-clause-terms
returns-then-vanishes-clause-terms c = rw c.remove.ensures.items
    (terms_remove c.args.sum.now.items c.args.i c.requires.terms)

pub returns-then-vanishes-clause-reach : goal.returns-then-vanishes-clause-reach
returns-then-vanishes-clause-reach c = λ fs n h. rw c.remove.ensures.items
    (reach-remove fs c.args.sum.now.items c.args.i n h)

pub returns-else-vanishes-clause-value : goal.returns-else-vanishes-clause-value
returns-else-vanishes-clause-value c = λ fs t.
    let xs = c.args.sum.now.items in
    let y : Term = record {
      atoms = (get_or c.deref_mut.result.now c.args.i blank).atoms;
      coefficient = (c.args.coefficient + (get_or c.deref.result.now c.args.i blank).coefficient) % 2 ^ 64;
    } in
    let r = get_or_default xs c.args.i blank t c.requires.within in
    ap (polynomial_form fs) (set_filled xs c.deref_mut.result.now c.args.i y c.deref_mut.ensures.value)
    ∙ form_set fs xs c.args.i y t c.args.coefficient c.requires.terms c.requires.within c.ranges.coefficient.fits
    (ap (λ (zs : List Term). (get_or zs c.args.i blank).atoms) c.deref_mut.ensures.value ∙ ap (λ (u : Term). u.atoms) r)
    (ap (λ (zs : List Term). (c.args.coefficient + (get_or zs c.args.i blank).coefficient) % 2 ^ 64) c.deref.ensures
    ∙ ap (λ (u : Term). (c.args.coefficient + u.coefficient) % 2 ^ 64) r)

pub returns-else-vanishes-clause-terms : goal.returns-else-vanishes-clause-terms
returns-else-vanishes-clause-terms c =
    let xs = c.args.sum.now.items in
    let y : Term = record {
      atoms = (get_or c.deref_mut.result.now c.args.i blank).atoms;
      coefficient = (c.args.coefficient + (get_or c.deref.result.now c.args.i blank).coefficient) % 2 ^ 64;
    } in
    rw (set_filled xs c.deref_mut.result.now c.args.i y c.deref_mut.ensures.value)
    (terms_set xs c.args.i y blank c.requires.terms c.requires.within
    (ap (λ (zs : List Term). (get_or zs c.args.i blank).atoms) c.deref_mut.ensures.value)
    (positive y.coefficient c.if-vanishes.false) (mod-lt _ (lit< tt)))

pub returns-else-vanishes-clause-reach : goal.returns-else-vanishes-clause-reach
returns-else-vanishes-clause-reach c = λ fs n h.
    let xs = c.args.sum.now.items in
    let y : Term = record {
      atoms = (get_or c.deref_mut.result.now c.args.i blank).atoms;
      coefficient = (c.args.coefficient + (get_or c.deref.result.now c.args.i blank).coefficient) % 2 ^ 64;
    } in
    let e = ap (λ (zs : List Term). reach_of_atoms fs (get_or zs c.args.i blank).atoms) c.deref_mut.ensures.value in
    let r = term_reach fs xs blank c.args.i c.requires.within in
    rw (set_filled xs c.deref_mut.result.now c.args.i y c.deref_mut.ensures.value)
    (reach-set fs xs c.args.i n y h (omega (arith, e, r, h)))
