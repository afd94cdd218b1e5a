-- Coefficients, and how often atoms occur in monomials.
use Rattle.std.specs.Prelude.{ℕ, suc, ◌+◌, ◌*◌}
use Rattle.ft_static.specs.Form.{Atom, Monomial, Polynomial, one, times, nought, plus, cmp_atom, cmp_monomial}
use Rattle.ft_static.specs.NormalForm.{by_order, join}

-- the coefficient of a monomial; 0 if the polynomial doesn't contain it
abbrev pub coefficient : Monomial → Polynomial → ℕ
coefficient k nought = 0
coefficient k (plus n d p) = by_order (cmp_monomial k n) (coefficient k p) d (coefficient k p)

-- how often an atom occurs in a monomial
abbrev pub count : Atom → Monomial → ℕ
count k one = 0
count k (times a m) = by_order (cmp_atom k a) (count k m) (suc (count k m)) (count k m)

-- c if the monomial m is k, and 0 otherwise
abbrev pub share : Monomial → Monomial → ℕ → ℕ
share k m c = by_order (cmp_monomial k m) 0 c 0

-- what the products of one term, m with coefficient c, with each term of a polynomial contribute to the coefficient
-- of k
abbrev pub share_of_multiple : Monomial → Monomial → ℕ → Polynomial → ℕ
share_of_multiple k m c nought = 0
share_of_multiple k m c (plus n d q) = share k (join m n) (c * d) + share_of_multiple k m c q

-- what the products of each term of p with each term of q contribute to the coefficient of k
abbrev pub share_of_products : Monomial → Polynomial → Polynomial → ℕ
share_of_products k nought q = 0
share_of_products k (plus m c p) q = share_of_multiple k m c q + share_of_products k p q
