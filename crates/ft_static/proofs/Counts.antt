-- An atom occurs in the product of two monomials as often as in the two together.
use Rattle.std.proofs.Common.{◌≡◌, ℕ, suc, ◌+◌, refl, ap, ◌∙◌, arith}
use Rattle.std.specs.declared.cmp.Ordering.{Ordering}
use Rattle.std.specs.declared.cmp.Ordering.TheVariants.{Less, Equal, Greater}
use Rattle.ft_static.specs.Form.{Atom, Monomial, one, times, cmp_atom}
use Rattle.ft_static.specs.NormalForm.{by_order, with_factor, join}
use Rattle.ft_static.specs.Coefficient.{count}
use Rattle.ft_static.proofs.Cases.{by_cases}

-- two atoms may be counted in either order
counts_swap : (o p : Ordering) (x : ℕ) → by_order o (by_order p x (suc x) x) (suc (by_order p x (suc x) x))
    (by_order p x (suc x) x) ≡ by_order p (by_order o x (suc x) x) (suc (by_order o x (suc x) x))
    (by_order o x (suc x) x)
counts_swap Less Less x = refl
counts_swap Less Equal x = refl
counts_swap Less Greater x = refl
counts_swap Equal Less x = refl
counts_swap Equal Equal x = refl
counts_swap Equal Greater x = refl
counts_swap Greater Less x = refl
counts_swap Greater Equal x = refl
counts_swap Greater Greater x = refl

-- one more atom is counted, wherever it is inserted
count_with : (k a : Atom) (m : Monomial) → count k (with_factor a m) ≡ count k (times a m)
count_with k a one = refl
count_with k a (times b m) = by_cases (λ n. count k n ≡ count k (times a (times b m))) (cmp_atom a b)
    (times a (times b m)) (times a (times b m)) (times b (with_factor a m))
    (λ e. refl)
    (λ e. refl)
    (λ e. ap (λ t. by_order (cmp_atom k b) t (suc t) t) (count_with k a m)
    ∙ counts_swap (cmp_atom k b) (cmp_atom k a) (count k m))

-- one more may be counted on either side of a sum
counts_join : (o : Ordering) (x y : ℕ) → x + by_order o y (suc y) y ≡ by_order o x (suc x) x + y
counts_join Less x y = refl
counts_join Equal x y = omega arith
counts_join Greater x y = refl

-- each atom occurs in the product as often as in the two monomials together
pub count_join : (k : Atom) (m n : Monomial) → count k (join m n) ≡ count k m + count k n
count_join k one n = omega arith
count_join k (times a m) n = count_join k m (with_factor a n)
    ∙ (ap (λ t. count k m + t) (count_with k a n) ∙ counts_join (cmp_atom k a) (count k m) (count k n))
