-- When sums and products are within the limits, and when they are atoms instead.
use Rattle.std.proofs.Common.{ℕ, zero, suc, ◌≡◌, ◌+◌, ◌*◌, ◌<◌, ◌≤◌, min, List, [], ◌∷◌, refl, sym, ap, ◌∙◌, subst}
use Rattle.std.proofs.Common.{arith, Bool, nat_le, true, false, ◌&&◌, inl, inr, Some, None, length, ◌^◌}
use Rattle.std.proofs.Math.Nat.{mod-eq_of_lt}
use Rattle.std.proofs.lemmas.Bool.{cases_lt, le-leb, lt-leb}
use Rattle.ft_isa.specs.declared.op.Op.TheVariants.{Add, Mul}
use Rattle.ft_static.specs.Form.{Form as Normal, Monomial, Polynomial, factors, nought, one, plus, times}
use Rattle.ft_static.specs.Form.{operation_atom, terms}
use Rattle.ft_static.specs.NormalForm.{add_products, alone, constant_of, degree, negation, norm_add, norm_mul, norm_sub}
use Rattle.ft_static.specs.NormalForm.{total}
use Rattle.ft_static.proofs.Cases.{if_cases}
use Rattle.ft_norm.specs.declared.entry.Term.{Term}
use Rattle.ft_norm.specs.Entries.{monomial_form, polynomial_form, size}
use Rattle.ft_norm.specs.Terms.{AreOver}
use Rattle.ft_norm.proofs.Adding.{total_none}
use Rattle.ft_norm.proofs.Single.{terms_over}
use Rattle.ft_norm.proofs.Sums.{form_rises}
use Rattle.ft_norm.proofs.Joining.{factors-monomial_form}
use Rattle.ft_norm.proofs.Weights.{Rises}

-- a sum within the limit is the normal form
norm_add_small : (p q s : Polynomial) (n : ℕ) → s ≡ total p q → terms s ≡ n → n ≤ 64 → s ≡ norm_add p q
norm_add_small p q s n e t h =
    let k : nat_le (terms (total p q)) 64 ≡ true = le-leb _ _ (let m : terms (total p q) ≡ n = ap terms (sym e) ∙ t in
    omega arith) in
    rw k e

-- beyond the limit, the normal form is an atom
norm_add_large : (p q s : Polynomial) (n : ℕ) → s ≡ total p q → terms s ≡ n → 64 < n → alone (operation_atom Add p q)
    ≡ norm_add p q
norm_add_large p q s n e t h =
    let k : nat_le (terms (total p q)) 64 ≡ false = lt-leb _ _ (let m : terms (total p q) ≡ n = ap terms (sym e) ∙ t in
    omega arith) in
    rw k refl

-- the test fails if there are too many products
pub too_many : (x y m n s d M : ℕ) → x ≡ m → y ≡ n → s ≡ min (m * n) M → 64 < s → false
    ≡ (nat_le (x * y) 64 && nat_le d 4)
too_many x y m n s d M a b e l =
    let k : nat_le (m * n) 64 ≡ false = lt-leb (m * n) 64 (omega arith) in
    rw (a, b, k) refl

-- if there are few enough products, the degrees decide
pub few : (x y m n s d e f g t M : ℕ) → x ≡ m → y ≡ n → s ≡ min (m * n) M → s ≤ 64 → 64 < M → t ≡ min (f + g) M → f
    ≡ d → g ≡ e → nat_le t 4 ≡ (nat_le (x * y) 64 && nat_le (d + e) 4)
few x y m n s d e f g t M a b h l w u p q =
    let k : nat_le (m * n) 64 ≡ true = le-leb (m * n) 64 (omega arith) in
    rw (a, b, k) (elim (cases_lt 4 (d + e)) [
      | inl r ↦ lt-leb t 4 (omega arith) ∙ sym (lt-leb (d + e) 4 r)
      | inr r ↦ le-leb t 4 (omega arith) ∙ sym (le-leb (d + e) 4 r)
    ])

-- a polynomial of more than 64 monomials is not a constant
large_is_none : (s : Polynomial) → nat_le (terms s) 64 ≡ false → constant_of s ≡ None
large_is_none nought e = cc
large_is_none (plus one c nought) e = cc
large_is_none (plus one c (plus n d p)) e = refl
large_is_none (plus (times a m) c p) e = refl

-- so a sum and its normal form are the same constant, or neither is a constant
pub constant_sum : (p q : Polynomial) → constant_of (total p q) ≡ constant_of (norm_add p q)
constant_sum p q = if_cases (λ r. constant_of (total p q) ≡ constant_of r) (nat_le (terms (total p q)) 64) (total p q)
    (alone (operation_atom Add p q)) (λ e. refl) (λ e. large_is_none (total p q) e)

-- without atoms, the monomial is the empty one
pub no_atom : (fs : List Normal) (xs : List ℕ) → size xs ≡ 0 → monomial_form fs xs ≡ one
no_atom fs [] e = refl
no_atom fs (zero ∷ xs) e = no_atom fs xs (omega (arith, e))
no_atom fs (suc k ∷ xs) e = absurd (omega (arith, e))

-- a term without atoms is a constant
pub no_atom_constant : (fs : List Normal) (xs : List ℕ) (c : ℕ) → size xs ≡ 0 → c < 2 ^ 64 → Some c
    ≡ constant_of (plus (monomial_form fs xs) c nought)
no_atom_constant fs xs c e w = rw (no_atom fs xs e) (ap Some (sym (mod-eq_of_lt w)))

-- a monomial with an atom is not a constant
no_constant : (m : Monomial) (c : ℕ) → 0 < factors m → None ≡ constant_of (plus m c nought)
no_constant one c l = absurd (omega arith)
no_constant (times a m) c l = refl

-- a term with an atom is not a constant
pub some_atom_constant : (fs : List Normal) (xs : List ℕ) (c : ℕ) → (size xs ≡ 0 → ⊥) → None
    ≡ constant_of (plus (monomial_form fs xs) c nought)
some_atom_constant fs xs c h = no_constant (monomial_form fs xs) c (let e = factors-monomial_form fs xs in
    omega (arith, e, h))

-- without terms, the polynomial is zero
nothing : (fs : List Normal) (q : List Term) → length q ≡ 0 → polynomial_form fs q ≡ nought
nothing fs [] e = refl
nothing fs (t ∷ q) e = absurd (omega (arith, e))

-- the normal form of a sum with zero is the other operand
pub sum_with_none : (fs : List Normal) (a b : Polynomial) (p : List Term) → AreOver fs p → length p ≤ 64 →
    polynomial_form fs p ≡ a → b ≡ nought → a ≡ norm_add a b
sum_with_none fs a b p o l e f =
    let w : Rises a = subst Rises e (form_rises fs p o.terms) in
    let t : terms a ≡ length p = ap terms (sym e) ∙ terms_over fs p o in
    norm_add_small a b a (length p) (sym (ap (total a) f ∙ total_none a w)) t l

-- if the second operand of a sum has no terms, the normal form is the first operand
pub sum_with_empty : (fs : List Normal) (a b : Polynomial) (p q : List Term) → AreOver fs p → length p ≤ 64 →
    polynomial_form fs p ≡ a → polynomial_form fs q ≡ b → length q ≡ 0 → a ≡ norm_add a b
sum_with_empty fs a b p q o l e f z = sum_with_none fs a b p o l e (sym f ∙ nothing fs q z)

-- likewise for a difference
pub less_empty : (fs : List Normal) (a b : Polynomial) (p q : List Term) → AreOver fs p → length p ≤ 64 →
    polynomial_form fs p ≡ a → polynomial_form fs q ≡ b → length q ≡ 0 → a ≡ norm_sub a b
less_empty fs a b p q o l e f z = sum_with_none fs a (negation b) p o l e (ap negation (sym f ∙ nothing fs q z))

-- if the first operand of a sum has no terms, the normal form is the second operand
pub empty_with_sum : (fs : List Normal) (a b : Polynomial) (p q : List Term) → AreOver fs q → length q ≤ 64 →
    polynomial_form fs p ≡ a → polynomial_form fs q ≡ b → length p ≡ 0 → b ≡ norm_add a b
empty_with_sum fs a b p q o l e f z =
    let t : terms b ≡ length q = ap terms (sym f) ∙ terms_over fs q o in
    norm_add_small a b b (length q) (sym (ap (λ x. total x b) (sym e ∙ nothing fs p z))) t l

-- if a sum has at most 64 terms, their polynomial is its normal form
pub sum_small : (fs : List Normal) (a b x y : Polynomial) (s : List Term) → AreOver fs s → polynomial_form fs s
    ≡ total x y → x ≡ a → y ≡ b → length s ≤ 64 → polynomial_form fs s ≡ norm_add a b
sum_small fs a b x y s o v e f l = norm_add_small a b (polynomial_form fs s) (length s) (v
    ∙ (ap (λ z. total z y) e ∙ ap (total a) f)) (terms_over fs s o) l

-- if a sum has more than 64 terms, its normal form is an atom
pub sum_large : (fs : List Normal) (a b x y : Polynomial) (s : List Term) → AreOver fs s → polynomial_form fs s
    ≡ total x y → x ≡ a → y ≡ b → 64 < length s → alone (operation_atom Add a b) ≡ norm_add a b
sum_large fs a b x y s o v e f l = norm_add_large a b (polynomial_form fs s) (length s) (v
    ∙ (ap (λ z. total z y) e ∙ ap (total a) f)) (terms_over fs s o) l

-- beyond the limits, the normal form of a product is an atom
pub product_large : (a b x y : Polynomial) (t : Bool) → t
    ≡ (nat_le (terms x * terms y) 64 && nat_le (degree x + degree y) 4) → t ≡ false → x ≡ a → y ≡ b →
    alone (operation_atom Mul a b) ≡ norm_mul a b
product_large a b x y t h k e f =
    let n : (nat_le (terms a * terms b) 64 && nat_le (degree a + degree b) 4) ≡ false = rw (sym e, sym f) (sym h ∙ k) in
    rw n refl

-- within the limits, the normal form of a product is the polynomial of all products of terms
pub product_small : (a b x y s : Polynomial) (t : Bool) → t
    ≡ (nat_le (terms x * terms y) 64 && nat_le (degree x + degree y) 4) → t ≡ true → x ≡ a → y ≡ b → s
    ≡ add_products x y nought → s ≡ norm_mul a b
product_small a b x y s t h k e f v =
    let n : (nat_le (terms a * terms b) 64 && nat_le (degree a + degree b) 4) ≡ true = rw (sym e, sym f) (sym h ∙ k) in
    rw n (v ∙ (ap (λ z. add_products z y nought) e ∙ ap (λ z. add_products a z nought) f))
