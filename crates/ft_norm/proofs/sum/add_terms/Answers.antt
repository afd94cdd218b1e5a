use Rattle.std.proofs.Common.{ℕ, List, ◌∙◌, ◌+◌, ◌<◌, length, sym, ap, drop, arith}
use Rattle.ft_static.specs.Form.{Form as Normal}
use Rattle.ft_static.specs.NormalForm.{total}
use Rattle.ft_norm.specs.Entries.{polynomial_form}
use Rattle.ft_norm.specs.Terms.{terms_of}
use Rattle.ft_norm.proofs.Ordered.{read_ordered}
use Rattle.ft_norm.proofs.Sums.{form_rises, term_reach_read, total_more}
use Rattle.ft_norm.proofs.sum.add_terms.Goals as goal

pub add_term-requires-clause-atoms : goal.add_term-requires-clause-atoms
add_term-requires-clause-atoms c = read_ordered (terms_of c.args.terms) c.term-term.result c.loop-i.i c.requires.terms
    (omega (arith, c.loop-i-test.true, c.len-i-end.ensures)) c.term-term.ensures

pub loop-i-preserved : goal.loop-i-preserved
loop-i-preserved c =
    let e = c.in_ok-add_term.ensures in
    let ts = terms_of c.args.terms in
    let i = c.loop-i.i in
    let l : i < length ts = omega (arith, c.loop-i-test.true, c.len-i-end.ensures) in
    record {
      value = λ (fs : List Normal). c.loop-i.invariant.value fs
          ∙ (total_more fs ts c.term-term.result (polynomial_form fs c.loop-i.sum.items) i c.requires.terms
          (form_rises fs c.loop-i.sum.items c.loop-i.invariant.terms) l c.term-term.ensures
          ∙ ap (total (polynomial_form fs (drop (i + 1) ts))) (sym (e.value fs)));
      terms = e.terms;
      reach = λ (fs : List Normal) (n : ℕ) h k. let r = term_reach_read fs ts c.term-term.result i l c.term-term.ensures
          in e.reach fs n (c.loop-i.invariant.reach fs n h k) (omega (arith, r, k));
    }

pub returns-in_err-add_term-clause-reach : goal.returns-in_err-add_term-clause-reach
returns-in_err-add_term-clause-reach c = λ fs n h k.
    let r = term_reach_read fs (terms_of c.args.terms) c.term-term.result c.loop-i.i (omega (
      arith,
      c.loop-i-test.true,
      c.len-i-end.ensures,
    )) c.term-term.ensures in
    c.in_err-add_term.ensures.reach fs n (c.loop-i.invariant.reach fs n h k) (omega (arith, r, k))
