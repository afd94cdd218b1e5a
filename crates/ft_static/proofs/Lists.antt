-- Forms are ordered as lists and pairs.
use Rattle.std.proofs.Common.{◌≡◌, ℕ, suc, length, refl, sym, ap, ◌∙◌, arith}
use Rattle.std.specs.Cmp.Lexicographic.{slice_cmp}
use Rattle.std.specs.Ordering.{nat_cmp, ordering_then}
use Rattle.std.specs.declared.cmp.Ordering.{Ordering}
use Rattle.std.specs.declared.cmp.Ordering.TheVariants.{Less, Equal, Greater}
use Rattle.std.proofs.lemmas.Bool.Decides.{nat_tests}
use Rattle.ft_static.proofs.Spelled.{then_assoc}
use Rattle.ft_static.specs.Form.{Monomial, Polynomial, Updates, one, times, nought, plus, unchanged, update, factors}
use Rattle.ft_static.specs.Form.{terms, updates, atoms, monomials, stores, cmp_atom, cmp_monomial, cmp_polynomial}
use Rattle.ft_static.specs.Form.{cmp_updates, cmp_lists, cmp_pairs}

-- a monomial's list of atoms is as long as the monomial has factors
length_atoms : (m : Monomial) → length (atoms m) ≡ factors m
length_atoms one = refl
length_atoms (times a m) = ap suc (length_atoms m)

-- a polynomial's list of monomials is as long as the polynomial has terms
length_monomials : (p : Polynomial) → length (monomials p) ≡ terms p
length_monomials nought = refl
length_monomials (plus m c p) = ap suc (length_monomials p)

-- a memory form's list of stores is as long as the form has updates
length_stores : (u : Updates) → length (stores u) ≡ updates u
length_stores unchanged = refl
length_stores (update p v u) = ap suc (length_stores u)

-- 0 is below a successor
zero_first : (n : ℕ) → nat_cmp 0 (suc n) ≡ Less
zero_first n = grind (arith, nat_tests)

-- a successor is above 0
zero_last : (n : ℕ) → nat_cmp (suc n) 0 ≡ Greater
zero_last n = grind (arith, nat_tests)

-- numbers are ordered as their successors are
above_one : (i j : ℕ) → nat_cmp i j ≡ nat_cmp (suc i) (suc j)
above_one i j = grind (arith, nat_tests)

-- repeating an earlier comparison does not change the result
again : (l a r : Ordering) → ordering_then l (ordering_then a (ordering_then l r)) ≡ ordering_then l (ordering_then a r)
again Less a r = refl
again Equal a r = refl
again Greater a r = refl

-- monomials are ordered as lists of atoms
pub monomial_lists : (m n : Monomial) → cmp_monomial m n ≡ cmp_lists cmp_atom (atoms m) (atoms n)
monomial_lists one one = refl
monomial_lists one (times b n) = rw (zero_first (length (atoms n))) refl
monomial_lists (times a m) one = rw (zero_last (length (atoms m))) refl
monomial_lists (times a m) (times b n) =
    ap (λ t. ordering_then (nat_cmp (factors m) (factors n)) (ordering_then (cmp_atom a b) t)) (monomial_lists m n)
    ∙ rw (length_atoms m, length_atoms n) (again (nat_cmp (factors m) (factors n)) (cmp_atom a b)
    (slice_cmp cmp_atom (atoms m) (atoms n))
    ∙ ap (λ t. ordering_then t (ordering_then (cmp_atom a b) (slice_cmp cmp_atom (atoms m) (atoms n))))
    (above_one (factors m) (factors n)))

-- polynomials are ordered as lists of pairs of monomial and coefficient
pub polynomial_lists : (p q : Polynomial) → cmp_polynomial p q
    ≡ cmp_lists (cmp_pairs cmp_monomial nat_cmp) (monomials p) (monomials q)
polynomial_lists nought nought = refl
polynomial_lists nought (plus n d q) = rw (zero_first (length (monomials q))) refl
polynomial_lists (plus m c p) nought = rw (zero_last (length (monomials p))) refl
polynomial_lists (plus m c p) (plus n d q) =
    ap (λ t. ordering_then (nat_cmp (terms p) (terms q))
    (ordering_then (cmp_monomial m n) (ordering_then (nat_cmp c d) t))) (polynomial_lists p q)
    ∙ rw (
      length_monomials p,
      length_monomials q,
      sym
          (then_assoc (cmp_monomial m n) (nat_cmp c d)
          (ordering_then (nat_cmp (terms p) (terms q))
          (slice_cmp (cmp_pairs cmp_monomial nat_cmp) (monomials p) (monomials q)))),
    )
    (again (nat_cmp (terms p) (terms q)) (ordering_then (cmp_monomial m n) (nat_cmp c d))
    (slice_cmp (cmp_pairs cmp_monomial nat_cmp) (monomials p) (monomials q))
    ∙ ap (λ t. ordering_then t (ordering_then (ordering_then (cmp_monomial m n) (nat_cmp c d))
    (slice_cmp (cmp_pairs cmp_monomial nat_cmp) (monomials p) (monomials q)))) (above_one (terms p) (terms q)))

-- memory forms are ordered as lists of pairs of address and value
pub updates_lists : (u w : Updates) → cmp_updates u w
    ≡ cmp_lists (cmp_pairs cmp_polynomial cmp_polynomial) (stores u) (stores w)
updates_lists unchanged unchanged = refl
updates_lists unchanged (update r w x) = rw (zero_first (length (stores x))) refl
updates_lists (update p v u) unchanged = rw (zero_last (length (stores u))) refl
updates_lists (update p v u) (update r w x) =
    ap (λ t. ordering_then (nat_cmp (updates u) (updates x))
    (ordering_then (cmp_polynomial p r) (ordering_then (cmp_polynomial v w) t))) (updates_lists u x)
    ∙ rw (
      length_stores u,
      length_stores x,
      sym (then_assoc (cmp_polynomial p r) (cmp_polynomial v w)
          (ordering_then (nat_cmp (updates u) (updates x))
          (slice_cmp (cmp_pairs cmp_polynomial cmp_polynomial) (stores u)
          (stores x)))),
    )
    (again (nat_cmp (updates u) (updates x)) (ordering_then (cmp_polynomial p r) (cmp_polynomial v w))
    (slice_cmp (cmp_pairs cmp_polynomial cmp_polynomial) (stores u) (stores x))
    ∙ ap (λ t. ordering_then t (ordering_then (ordering_then (cmp_polynomial p r) (cmp_polynomial v w))
    (slice_cmp (cmp_pairs cmp_polynomial cmp_polynomial) (stores u) (stores x)))) (above_one (updates u) (updates x)))
