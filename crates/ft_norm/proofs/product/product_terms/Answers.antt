use Rattle.std.proofs.Common.{ℕ, List, ◌≡◌, ◌∙◌, ◌+◌, ◌*◌, ◌<◌, sym, ap, drop, length, arith}
use Rattle.ft_static.specs.Form.{Form as Normal}
use Rattle.ft_static.specs.NormalForm.{add_products}
use Rattle.ft_norm.specs.Entries.{polynomial_form}
use Rattle.ft_norm.specs.Terms.{terms_of}
use Rattle.ft_norm.proofs.Linear.{read_degree}
use Rattle.ft_norm.proofs.Ordered.{read_ordered}
use Rattle.ft_norm.proofs.Sums.{form_rises, products_more, term_reach_read}
use Rattle.ft_norm.proofs.product.product_terms.Goals as goal

pub add_multiple-requires-clause-term : goal.add_multiple-requires-clause-term
add_multiple-requires-clause-term c = read_ordered (terms_of c.args.p) c.term-t.result c.loop-i.i c.requires.first
    (omega (arith, c.loop-i-test.true, c.len-i-end.ensures)) c.term-t.ensures

pub add_multiple-requires-clause-room : goal.add_multiple-requires-clause-room
add_multiple-requires-clause-room c =
    let d = read_degree (terms_of c.args.p) c.loop-i.i c.term-t.result (omega (
      arith,
      c.loop-i-test.true,
      c.len-i-end.ensures,
    )) c.term-t.ensures in
    omega (arith, d, c.requires.room)

pub loop-i-preserved : goal.loop-i-preserved
loop-i-preserved c =
    let e = c.in_ok-add_multiple.ensures in
    let ps = terms_of c.args.p in
    let qs = terms_of c.args.q in
    let i = c.loop-i.i in
    let t = c.term-t.result in
    let xs = c.loop-i.sum.items in
    let l : i < length ps = omega (arith, c.loop-i-test.true, c.len-i-end.ensures) in
    record {
      value = λ (fs : List Normal). c.loop-i.invariant.value fs
          ∙ (products_more fs ps t (polynomial_form fs qs) (polynomial_form fs xs) i
          (form_rises fs xs c.loop-i.invariant.terms) l c.term-t.ensures
          ∙ ap (add_products (polynomial_form fs (drop (i + 1) ps)) (polynomial_form fs qs)) (sym (e.value fs)));
      terms = e.terms;
      reach = λ (fs : List Normal) (n : ℕ) h k. e.reach fs n (c.loop-i.invariant.reach fs n h k) (let r =
          term_reach_read fs ps t i l c.term-t.ensures in omega (arith, r, h)) k;
      count = let m : (i + 1) * length qs ≡ i * length qs + length qs = grind arith in
          omega (arith, m, e.count, c.loop-i.invariant.count);
    }
