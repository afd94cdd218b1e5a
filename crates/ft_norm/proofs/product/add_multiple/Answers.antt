use Rattle.std.proofs.Common.{ℕ, List, ◌≡◌, ◌∙◌, ◌+◌, ◌*◌, ◌%◌, ◌^◌, ◌<◌, length, sym, ap, drop, arith}
use Rattle.ft_static.specs.Form.{Form as Normal, Monomial}
use Rattle.ft_static.specs.NormalForm.{add_multiple as sum_with_multiple, add_term, join}
use Rattle.ft_norm.specs.Entries.{monomial_form, polynomial_form}
use Rattle.ft_norm.specs.Terms.{terms_of}
use Rattle.ft_norm.proofs.Linear.{read_degree}
use Rattle.ft_norm.proofs.Ordered.{read_ordered}
use Rattle.ft_norm.proofs.Sums.{form_rises, multiple_more, term_reach_read}
use Rattle.ft_norm.proofs.product.add_multiple.Goals as goal

pub joined-atoms-requires-clause-second : goal.joined-atoms-requires-clause-second
joined-atoms-requires-clause-second c = read_ordered (terms_of c.args.terms) c.term-u.result c.loop-i.i c.requires.terms
    (omega (arith, c.loop-i-test.true, c.len-i-end.ensures)) c.term-u.ensures

pub joined-atoms-requires-clause-room : goal.joined-atoms-requires-clause-room
joined-atoms-requires-clause-room c =
    let d = read_degree (terms_of c.args.terms) c.loop-i.i c.term-u.result (omega (
      arith,
      c.loop-i-test.true,
      c.len-i-end.ensures,
    )) c.term-u.ensures in
    omega (arith, d, c.requires.room)

pub returns-in_err-add_term-clause-reach : goal.returns-in_err-add_term-clause-reach
returns-in_err-add_term-clause-reach c = λ fs n h k j.
    let r = term_reach_read fs (terms_of c.args.terms) c.term-u.result c.loop-i.i (omega (
      arith,
      c.loop-i-test.true,
      c.len-i-end.ensures,
    )) c.term-u.ensures in
    c.in_err-add_term.ensures.reach fs n (c.loop-i.invariant.reach fs n h k j)
    (c.joined-atoms.ensures.reach fs n k (omega (arith, r, j)))

pub loop-i-preserved : goal.loop-i-preserved
loop-i-preserved c =
    let e = c.in_ok-add_term.ensures in
    let t = c.args.t in
    let us = terms_of c.args.terms in
    let i = c.loop-i.i in
    let u = c.term-u.result in
    let xs = c.loop-i.sum.items in
    let l : i < length us = omega (arith, c.loop-i-test.true, c.len-i-end.ensures) in
    record {
      value = λ (fs : List Normal).
          let m : monomial_form fs c.joined-atoms.result ≡ join (monomial_form fs t.atoms) (monomial_form fs u.atoms) =
          c.joined-atoms.ensures.value fs in
          c.loop-i.invariant.value fs ∙ (multiple_more fs (monomial_form fs t.atoms) t.coefficient us u
          (polynomial_form fs xs) i c.requires.terms (form_rises fs xs c.loop-i.invariant.terms) l c.term-u.ensures
          ∙ ap (sum_with_multiple (monomial_form fs t.atoms) t.coefficient (polynomial_form fs (drop (i + 1) us)))
          (sym (e.value fs ∙ ap (λ (k : Monomial).
          add_term k ((t.coefficient * u.coefficient) % 2 ^ 64) (polynomial_form fs xs)) m)));
      terms = e.terms;
      reach = λ (fs : List Normal) (n : ℕ) h k j.
          let r = term_reach_read fs us u i l c.term-u.ensures in
          e.reach fs n (c.loop-i.invariant.reach fs n h k j)
          (c.joined-atoms.ensures.reach fs n k (omega (arith, r, j)));
      count = omega (arith, e.count, c.loop-i.invariant.count);
    }
