use Rattle.std.proofs.Common.{◌∙◌, arith, ap, get_or, sym}
use Rattle.ft_static.specs.Form.{one}
use Rattle.ft_norm.specs.Entries.{monomial_form, reach_of_atoms, with_atom}
use Rattle.ft_norm.proofs.Joining.{atoms_swap}
use Rattle.ft_norm.proofs.Numbers.{opens}
use Rattle.ft_norm.proofs.product.with_atom.Goals as goal

pub returns-then-atom-y-clause-value : goal.returns-then-atom-y-clause-value
returns-then-atom-y-clause-value c = λ fs.
    let xs = c.args.atoms in
    let e = opens xs c.args.atom c.requires.monomial c.if-atom-eq0.false c.requires.room in
    atoms_swap fs (get_or xs 1 0) c.args.atom (with_atom fs (get_or xs 2 0) (with_atom fs (get_or xs 3 0) one))
    ∙ ap (λ ys. with_atom fs c.args.atom (monomial_form fs ys)) (sym e)

pub returns-then-atom-y-clause-reach : goal.returns-then-atom-y-clause-reach
returns-then-atom-y-clause-reach c = λ fs.
    let r = ap (reach_of_atoms fs) (opens c.args.atoms c.args.atom c.requires.monomial c.if-atom-eq0.false
    c.requires.room) in omega (arith, r)

pub returns-then-atom-z-clause-value : goal.returns-then-atom-z-clause-value
returns-then-atom-z-clause-value c = λ fs.
    let xs = c.args.atoms in
    let a = c.args.atom in
    let m = with_atom fs (get_or xs 3 0) one in
    let e = opens xs a c.requires.monomial c.if-atom-eq0.false c.requires.room in
    ap (with_atom fs (get_or xs 1 0)) (atoms_swap fs (get_or xs 2 0) a m)
    ∙ (atoms_swap fs (get_or xs 1 0) a (with_atom fs (get_or xs 2 0) m)
    ∙ ap (λ ys. with_atom fs a (monomial_form fs ys)) (sym e))

pub returns-then-atom-z-clause-reach : goal.returns-then-atom-z-clause-reach
returns-then-atom-z-clause-reach c = λ fs.
    let r = ap (reach_of_atoms fs) (opens c.args.atoms c.args.atom c.requires.monomial c.if-atom-eq0.false
    c.requires.room) in omega (arith, r)

pub returns-clause-value : goal.returns-clause-value
returns-clause-value c = λ fs.
    let xs = c.args.atoms in
    let a = c.args.atom in
    let m = with_atom fs (get_or xs 3 0) one in
    let e = opens xs a c.requires.monomial c.if-atom-eq0.false c.requires.room in
    ap (λ n. with_atom fs (get_or xs 1 0) (with_atom fs (get_or xs 2 0) n)) (atoms_swap fs (get_or xs 3 0) a one)
    ∙ (ap (with_atom fs (get_or xs 1 0)) (atoms_swap fs (get_or xs 2 0) a m)
    ∙ (atoms_swap fs (get_or xs 1 0) a (with_atom fs (get_or xs 2 0) m)
    ∙ ap (λ ys. with_atom fs a (monomial_form fs ys)) (sym e)))

pub returns-clause-reach : goal.returns-clause-reach
returns-clause-reach c = λ fs.
    let r = ap (reach_of_atoms fs) (opens c.args.atoms c.args.atom c.requires.monomial c.if-atom-eq0.false
    c.requires.room) in omega (arith, r)
