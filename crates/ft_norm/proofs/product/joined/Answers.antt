use Rattle.std.proofs.Common.{ℕ, List, ◌∙◌, ap, arith, get_or, sym}
use Rattle.ft_static.specs.NormalForm.{join}
use Rattle.ft_norm.specs.Entries.{monomial_form, reach_of_atoms, with_atom}
use Rattle.ft_norm.proofs.Joining.{join_atoms}
use Rattle.ft_norm.proofs.Numbers.{numbers}
use Rattle.ft_norm.proofs.product.joined.Goals as goal

pub returns-clause-value : goal.returns-clause-value
returns-clause-value c = λ fs.
    let m = c.args.m in
    let n = monomial_form fs c.args.n in
    c.with_atom.ensures.value fs
    ∙ (ap (with_atom fs (get_or m 0 0)) (c.with_atom-product-3.ensures.value fs
    ∙ ap (with_atom fs (get_or m 1 0)) (c.with_atom-product-2.ensures.value fs
    ∙ ap (with_atom fs (get_or m 2 0)) (c.with_atom-product.ensures.value fs)))
    ∙ (sym (join_atoms fs (get_or m 0 0) (get_or m 1 0) (get_or m 2 0) (get_or m 3 0) n)
    ∙ ap (λ (xs : List ℕ). join (monomial_form fs xs) n) (sym (numbers m c.requires.first.0))))

pub returns-clause-reach : goal.returns-clause-reach
returns-clause-reach c = λ fs k h j.
    let e = ap (reach_of_atoms fs) (numbers c.args.m c.requires.first.0) in
    let p = c.with_atom.ensures.reach fs in
    let q = c.with_atom-product-3.ensures.reach fs in
    let r = c.with_atom-product-2.ensures.reach fs in
    let s = c.with_atom-product.ensures.reach fs in
    omega (arith, e, p, q, r, s, h, j)
