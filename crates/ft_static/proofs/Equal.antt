-- Two forms compare as equal exactly when they are the same.
use Rattle.std.proofs.Common.{◌≡◌, ◌↔◌, true, refl, ap}
use Rattle.std.specs.Cmp.{IsTotalOrder}
use Rattle.std.specs.Ordering.{is_eq}
use Rattle.std.specs.declared.cmp.Ordering.{Ordering}
use Rattle.std.specs.declared.cmp.Ordering.TheVariants.{Less, Equal, Greater}
use Rattle.std.proofs.lemmas.Cmp.{tied_itself}
use Rattle.ft_static.specs.Form.{Atom, Monomial, Polynomial, Updates, cmp_atom, cmp_monomial, cmp_polynomial}
use Rattle.ft_static.specs.Form.{cmp_updates, same_polynomial, same_updates}
use Rattle.ft_static.proofs.Spelled.{cmp_atom_total, cmp_monomial_total, cmp_polynomial_total, cmp_updates_total}
use Rattle.ft_static.proofs.Spelled.{atom_equal, monomial_equal, polynomial_equal, updates_equal}

-- a result that passes the test for `Equal` is `Equal`
is_equal : (o : Ordering) → is_eq o ≡ true → o ≡ Equal
is_equal Less e = cc
is_equal Equal e = refl
is_equal Greater e = cc

-- equal values tie
tied : {K : Type 0} (R : K → K → Ordering) → IsTotalOrder R → (x y : K) → x ≡ y → R x y ≡ Equal
tied R t x y e = rw e (tied_itself t y)

-- two atoms tie exactly when they are the same
pub equal_atoms : (a b : Atom) → cmp_atom a b ≡ Equal ↔ a ≡ b
equal_atoms a b = (atom_equal a b, tied cmp_atom cmp_atom_total a b)

-- likewise for monomials
pub equal_monomials : (m n : Monomial) → cmp_monomial m n ≡ Equal ↔ m ≡ n
equal_monomials m n = (monomial_equal m n, tied cmp_monomial cmp_monomial_total m n)

-- the test on polynomials holds exactly when they are the same
pub equal_polynomials : (p q : Polynomial) → same_polynomial p q ≡ true ↔ p ≡ q
equal_polynomials p q = (
  λ e. polynomial_equal p q (is_equal (cmp_polynomial p q) e),
  λ e.
      ap is_eq (tied cmp_polynomial cmp_polynomial_total p q e),
)

-- the test holds of a polynomial and itself
pub same_itself : (p : Polynomial) → same_polynomial p p ≡ true
same_itself p = (equal_polynomials p p).1 refl

-- the test on memory forms holds exactly when they are the same
pub equal_updates : (u w : Updates) → same_updates u w ≡ true ↔ u ≡ w
equal_updates u w = (
  λ e. updates_equal u w (is_equal (cmp_updates u w) e),
  λ e.
      ap is_eq (tied cmp_updates cmp_updates_total u w e),
)
