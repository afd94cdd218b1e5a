-- Sums, differences and products of forms in order are in order, and so are constants.
use Rattle.std.proofs.Common.{ℕ, suc, ◌≡◌, ◌≢◌, ◌+◌, ◌*◌, ◌-◌, ◌%◌, ◌^◌, ◌<◌, ◌≤◌, ◌==◌, true, refl, sym, ap, ◌∙◌}
use Rattle.std.proofs.Common.{arith, lit<, lit≤, nat_le, ◌&&◌}
use Rattle.std.proofs.Math.Nat.{mod-lt, mod-eq_of_lt}
use Rattle.std.specs.Ordering.{ordering_reverse}
use Rattle.std.specs.declared.cmp.Ordering.{Ordering}
use Rattle.std.specs.declared.cmp.Ordering.TheVariants.{Less, Equal, Greater}
use Rattle.std.proofs.lemmas.Bool.{eqb-false, leb-true, and_parts}
use Rattle.ft_isa.specs.declared.op.Op.TheVariants.{Add, Mul}
use Rattle.ft_static.specs.NormalForm.{constant, with_factor, join, led_by, add_term, total, add_multiple, add_products}
use Rattle.ft_static.specs.NormalForm.{degree, alone, negation, norm_add, norm_sub, norm_mul}
use Rattle.ft_static.specs.Form.{factors, terms, Atom, Monomial, Polynomial, operation_atom, one, times, nought, plus}
use Rattle.ft_static.specs.Form.{cmp_atom, cmp_monomial, Leads, Below, IsProperAtom, IsProperMonomial, IsProper}
use Rattle.ft_static.specs.Form.{IsNormal}
use Rattle.ft_static.proofs.Spelled.{cmp_atom_total, cmp_monomial_total}
use Rattle.ft_static.proofs.Cases.{by_cases, if_cases}

-- if the reversed comparison is `Greater`, the comparison is `Less`
pub turned : (o p : Ordering) → o ≡ ordering_reverse p → p ≡ Greater → o ≡ Less
turned o p e h = rw (e, h) refl

-- if the reversed comparison is `Greater`, the comparison is not
not_greater : (o p : Ordering) → o ≡ ordering_reverse p → p ≡ Greater → o ≢ Greater
not_greater o p e h k = let x : Less ≡ Greater = sym (turned o p e h) ∙ k in cc

-- `Less` is not `Greater`
less_not_greater : (o : Ordering) → o ≡ Less → o ≢ Greater
less_not_greater o e k = let x : Less ≡ Greater = sym e ∙ k in cc

-- `Equal` is not `Greater`
equal_not_greater : (o : Ordering) → o ≡ Equal → o ≢ Greater
equal_not_greater o e k = let x : Equal ≡ Greater = sym e ∙ k in cc

-- if `b` leads a monomial and is not greater than `a`, it still leads the monomial after `a` is inserted
leads_with : (a b : Atom) (m : Monomial) → cmp_atom b a ≢ Greater → Leads b m → Leads b (with_factor a m)
leads_with a b one h k = h
leads_with a b (times d m) h k = by_cases (λ n. Leads b n) (cmp_atom a d) (times a (times d m)) (times a (times d m))
    (times d (with_factor a m)) (λ e. h) (λ e. h) (λ e. k)

-- inserting an atom keeps a monomial in order
proper_with : (a : Atom) (m : Monomial) → IsProperAtom a → IsProperMonomial m → IsProperMonomial (with_factor a m)
proper_with a one h k = (h, tt, tt)
proper_with a (times b m) h k = by_cases (λ n. IsProperMonomial n) (cmp_atom a b) (times a (times b m))
    (times a (times b m)) (times b (with_factor a m))
    (λ e. (h, less_not_greater _ e, k))
    (λ e. (h, equal_not_greater _ e, k))
    (λ e. (k.0, leads_with a b m (not_greater _ _ (cmp_atom_total.antisymm b a) e) k.1, proper_with a m h k.2))

-- a product of monomials in order is in order
pub proper_join : (m n : Monomial) → IsProperMonomial m → IsProperMonomial n → IsProperMonomial (join m n)
proper_join one n h k = k
proper_join (times a m) n h k = proper_join m (with_factor a n) h.2 (proper_with a n h.0 k)

-- inserting an atom adds one to the number of atoms
pub factors_with : (a : Atom) (m : Monomial) → factors (with_factor a m) ≡ suc (factors m)
factors_with a one = refl
factors_with a (times b m) = by_cases (λ n. factors n ≡ suc (suc (factors m))) (cmp_atom a b) (times a (times b m))
    (times a (times b m)) (times b (with_factor a m)) (λ e. refl) (λ e. refl) (λ e. ap suc (factors_with a m))

-- the number of atoms in a product of two monomials is the sum of their numbers of atoms
pub factors_join : (m n : Monomial) → factors (join m n) ≡ factors m + factors n
factors_join one n = omega arith
factors_join (times a m) n = let h = factors_join m (with_factor a n) in let k = factors_with a n in omega arith

-- a monomial below a polynomial stays below it when a larger term is put first
pub below_led : (k m : Monomial) (c : ℕ) (p : Polynomial) → cmp_monomial k m ≡ Less → Below k p → Below k (led_by m c p)
below_led k m c p h g = if_cases (λ q. Below k q) (c == 0) p (plus m c p) (λ e. g) (λ e. h)

-- a monomial that is less than another is below whatever the other is below
pub below_more : (k m : Monomial) (p : Polynomial) → cmp_monomial k m ≡ Less → Below m p → Below k p
below_more k m nought h g = tt
below_more k m (plus n d p) h g = cmp_monomial_total.trans k m n h g

-- a monomial below a polynomial stays below it when a larger term is added
below_add : (k m : Monomial) (c : ℕ) (p : Polynomial) → cmp_monomial k m ≡ Less → Below k p → IsProper p →
    Below k (add_term m c p)
below_add k m c nought h g w = below_led k m c nought h tt
below_add k m c (plus n d p) h g w = by_cases (λ q. Below k q) (cmp_monomial m n) (led_by m c (plus n d p))
    (led_by n ((c + d) % 2 ^ 64) p) (plus n d (add_term m c p))
    (λ e. below_led k m c (plus n d p) h g)
    (λ e. below_led k n ((c + d) % 2 ^ 64) p g (below_more k n p g w.4))
    (λ e. g)

-- putting a lower term first keeps a polynomial in order
proper_led : (m : Monomial) (c : ℕ) (p : Polynomial) → IsProperMonomial m → factors m ≤ 4 → c < 2 ^ 64 → Below m p →
    IsProper p → IsProper (led_by m c p)
proper_led m c p h f l b w = if_cases (λ q. IsProper q) (c == 0) p (plus m c p) (λ e. w) (λ e.
    (h, f, (let n = eqb-false c 0 e in omega arith), l, b, w))

-- adding a term keeps a polynomial in order
pub proper_add_term : (m : Monomial) (c : ℕ) (p : Polynomial) → IsProperMonomial m → factors m ≤ 4 → c < 2 ^ 64 →
    IsProper p → IsProper (add_term m c p)
proper_add_term m c nought h f l w = proper_led m c nought h f l tt tt
proper_add_term m c (plus n d p) h f l w = by_cases (λ q. IsProper q) (cmp_monomial m n) (led_by m c (plus n d p))
    (led_by n ((c + d) % 2 ^ 64) p) (plus n d (add_term m c p))
    (λ e. proper_led m c (plus n d p) h f l e w)
    (λ e. proper_led n ((c + d) % 2 ^ 64) p w.0 w.1 (mod-lt _ (lit< tt)) w.4 w.5)
    (λ e. (
      w.0,
      w.1,
      w.2,
      w.3,
      below_add n m c p (turned _ _ (cmp_monomial_total.antisymm n m) e) w.4 w.5,
      proper_add_term m c p h f l w.5,
    ))

-- a sum of polynomials in order is in order
pub proper_total : (p q : Polynomial) → IsProper p → IsProper q → IsProper (total p q)
proper_total nought q h k = k
proper_total (plus m c p) q h k = proper_total p (add_term m c q) h.5 (proper_add_term m c q h.0 h.1 h.3 k)

-- adding the products with one term keeps a polynomial in order
pub proper_multiple : (m : Monomial) (c : ℕ) (p q : Polynomial) → IsProperMonomial m → factors m + degree p ≤ 4 →
    IsProper p → IsProper q → IsProper (add_multiple m c p q)
proper_multiple m c nought q h f w v = v
proper_multiple m c (plus n d p) q h f w v =
    let k = factors_join m n in
    proper_multiple m c p (add_term (join m n) ((c * d) % 2 ^ 64) q) h (omega arith) w.5
    (proper_add_term (join m n) ((c * d) % 2 ^ 64) q (proper_join m n h w.0) (omega arith) (mod-lt _ (lit< tt)) v)

-- adding all products keeps a polynomial in order
proper_products : (p q r : Polynomial) → degree p + degree q ≤ 4 → IsProper p → IsProper q → IsProper r →
    IsProper (add_products p q r)
proper_products nought q r f h k w = w
proper_products (plus m c p) q r f h k w = proper_products p q (add_multiple m c q r) (omega arith) h.5 k
    (proper_multiple m c q r h.0 (omega arith) k w)

-- putting a term first adds at most one to the number of terms
terms_led : (m : Monomial) (c : ℕ) (p : Polynomial) → terms (led_by m c p) ≤ suc (terms p)
terms_led m c p = if_cases (λ q. terms q ≤ suc (terms p)) (c == 0) p (plus m c p) (λ e. omega arith) (λ e. omega arith)

-- adding a term adds at most one to the number of terms
terms_add_term : (m : Monomial) (c : ℕ) (p : Polynomial) → terms (add_term m c p) ≤ suc (terms p)
terms_add_term m c nought = terms_led m c nought
terms_add_term m c (plus n d p) = by_cases (λ q. terms q ≤ suc (suc (terms p))) (cmp_monomial m n)
    (led_by m c (plus n d p)) (led_by n ((c + d) % 2 ^ 64) p) (plus n d (add_term m c p))
    (λ e. terms_led m c (plus n d p))
    (λ e. let h = terms_led n ((c + d) % 2 ^ 64) p in omega arith)
    (λ e. let h = terms_add_term m c p in omega arith)

-- adding the products of p with one term adds at most as many terms as p has
terms_multiple : (m : Monomial) (c : ℕ) (p q : Polynomial) → terms (add_multiple m c p q) ≤ terms p + terms q
terms_multiple m c nought q = omega arith
terms_multiple m c (plus n d p) q = let h = terms_multiple m c p (add_term (join m n) ((c * d) % 2 ^ 64) q) in
    let k = terms_add_term (join m n) ((c * d) % 2 ^ 64) q in omega arith

-- adding all products adds at most the product of the numbers of terms
terms_products : (p q r : Polynomial) → terms (add_products p q r) ≤ terms p * terms q + terms r
terms_products nought q r = omega arith
terms_products (plus m c p) q r = let h = terms_products p q (add_multiple m c q r) in let k = terms_multiple m c q r in
    let e : suc (terms p) * terms q ≡ terms p * terms q + terms q = grind arith in omega arith

-- a single atom is in order
pub proper_alone : (a : Atom) → IsProperAtom a → IsProper (alone a)
proper_alone a h = ((h, tt, tt), lit≤ tt, lit< tt, lit< tt, tt, tt)

-- the form of add is normal
pub proper_norm_add : (p q : Polynomial) → IsProper p → IsProper q → terms p ≤ 64 → terms q ≤ 64 →
    IsProper (norm_add p q) × (terms (norm_add p q) ≤ 64)
proper_norm_add p q h k m n = if_cases (λ t. IsProper t × (terms t ≤ 64)) (nat_le (terms (total p q)) 64) (total p q)
    (alone (operation_atom Add p q))
    (λ e. (proper_total p q h k, leb-true _ _ e))
    (λ e. (proper_alone (operation_atom Add p q) (h, k, m, n), lit≤ tt))

-- the form of mul is normal
pub proper_norm_mul : (p q : Polynomial) → IsProper p → IsProper q → terms p ≤ 64 → terms q ≤ 64 →
    IsProper (norm_mul p q) × (terms (norm_mul p q) ≤ 64)
proper_norm_mul p q h k m n = if_cases (λ t. IsProper t × (terms t ≤ 64)) (nat_le (terms p * terms q) 64
    && nat_le (degree p + degree q) 4) (add_products p q nought) (alone (operation_atom Mul p q))
    (λ e. let b : (nat_le (terms p * terms q) 64 ≡ true) × (nat_le (degree p + degree q) 4 ≡ true) = and_parts _ _ e in
    let u : terms p * terms q ≤ 64 = leb-true _ _ b.0 in let t = terms_products p q nought in
    (proper_products p q nought (leb-true _ _ b.1) h k tt, omega arith))
    (λ e. (proper_alone (operation_atom Mul p q) (h, k, m, n), lit≤ tt))

-- a monomial below a polynomial is below its negation
pub below_negation : (k : Monomial) (p : Polynomial) → Below k p → Below k (negation p)
below_negation k nought h = tt
below_negation k (plus m c p) h = h

-- negation keeps a polynomial in order
proper_negation : (p : Polynomial) → IsProper p → IsProper (negation p)
proper_negation nought h = tt
proper_negation (plus m c p) h =
    let e : c % 18446744073709551616 ≡ c = mod-eq_of_lt h.3 in
    let f : (2 ^ 64 - c % 2 ^ 64) % 2 ^ 64 ≡ 2 ^ 64 - c = rw e (mod-eq_of_lt (omega (arith, h.2, h.3))) in
    (h.0, h.1, rw f (omega (arith, h.3)), mod-lt _ (lit< tt), below_negation m p h.4, proper_negation p h.5)

-- negation keeps the number of monomials
terms_negation : (p : Polynomial) → terms (negation p) ≡ terms p
terms_negation nought = refl
terms_negation (plus m c p) = ap suc (terms_negation p)

-- the form of sub is normal
pub normal_sub : (p q : Polynomial) → IsNormal p → IsNormal q → IsNormal (norm_sub p q)
normal_sub p q h k = proper_norm_add p (negation q) h.0 (proper_negation q k.0) h.1 (rw (terms_negation q) k.1)

-- a constant is normal
pub normal_constant : (c : ℕ) → IsNormal (constant c)
normal_constant c = if_cases (λ t. IsNormal t) (c % 2 ^ 64 == 0) nought (plus one (c % 2 ^ 64) nought)
    (λ e. (tt, lit≤ tt))
    (λ e. ((tt, lit≤ tt, (let n = eqb-false (c % 2 ^ 64) 0 e in omega arith), mod-lt _ (lit< tt), tt, tt), lit≤ tt))

-- a single atom is normal
pub normal_alone : (a : Atom) → IsProperAtom a → IsNormal (alone a)
normal_alone a h = (proper_alone a h, lit≤ tt)
