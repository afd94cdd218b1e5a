-- The forms of differences and of constants denote differences and constants.
use Rattle.std.proofs.Common.{ℕ, suc, ◌≡◌, ◌+◌, ◌*◌, ◌-◌, ◌%◌, ◌^◌, ◌<◌, ◌≤◌, ◌==◌, refl, sym, ap, ◌∙◌, arith, Some}
use Rattle.std.proofs.Math.Nat.{add-mod-mod, mod-add-mod, mod-lt, mod-mod, mul-add, mul-one, add-zero, add-mod_right}
use Rattle.std.proofs.Math.Nat.{mul-add-mod_self_left}
use Rattle.std.proofs.lemmas.Bool.{eqb-true}
use Rattle.std.proofs.lemmas.Nat.{mul-mod_first, mul-mod_second}
use Rattle.ft_isa.specs.declared.op.Op.TheVariants.{Sub}
use Rattle.ft_isa.specs.Words.{apply}
use Rattle.ft_static.specs.Expression.{Valuation, IsLawful}
use Rattle.ft_static.specs.Form.{Polynomial, one, times, nought, plus, value_monomial, value_polynomial}
use Rattle.ft_static.specs.NormalForm.{constant, negation, norm_sub, constant_of}
use Rattle.ft_static.proofs.Cases.{if_cases}
use Rattle.ft_static.proofs.Sums.{value_polynomial_is_word, value_add}

-- k * v is k + 1 - v, modulo k + 1
negative : (k v : ℕ) → v ≤ suc k → (k * v) % suc k ≡ (suc k - v) % suc k
negative k v h =
    let e : k * v + suc k ≡ suc k * v + (suc k - v) = grind arith in
    sym (add-mod_right (k * v) (suc k)) ∙ (ap (λ t. t % suc k) e ∙ mul-add-mod_self_left (suc k) v (suc k - v))

-- likewise for a negated coefficient
negated : (k c : ℕ) → (suc k - c % suc k) % suc k ≡ (k * c) % suc k
negated k c =
    let h : c % suc k < suc k = mod-lt c (omega arith) in
    sym (negative k (c % suc k) (omega arith)) ∙ mul-mod_second k c (suc k)

-- negating the first term and the rest of a sum negates the sum
negated_term : (k c x y : ℕ) → ((suc k - c % suc k) % suc k * x + (k * y) % suc k) % suc k
    ≡ (k * ((c * x + y) % suc k)) % suc k
negated_term k c x y =
    let first : ((suc k - c % suc k) % suc k * x) % suc k
    ≡ (k * c * x) % suc k = ap (λ t. (t * x) % suc k) (negated k c) ∙ mul-mod_first (k * c) x (suc k) in
    let whole : k * c * x + k * y ≡ k * (c * x + y) = rw mul-add (grind arith) in
    add-mod-mod ((suc k - c % suc k) % suc k * x) (k * y) (suc k)
    ∙ (sym (mod-add-mod ((suc k - c % suc k) % suc k * x) (suc k) (k * y))
    ∙ (ap (λ t. (t + k * y) % suc k) first
    ∙ (mod-add-mod (k * c * x) (suc k) (k * y)
    ∙ (ap (λ t. t % suc k) whole
    ∙ sym (mul-mod_second k (c * x + y) (suc k))))))

-- the negation of a polynomial denotes the negated value
value_negation : (p : Polynomial) (s : Valuation) → value_polynomial (negation p) s
    ≡ (18446744073709551615 * value_polynomial p s) % 2 ^ 64
value_negation nought s = refl
value_negation (plus m c p) s = ap (λ t. ((2 ^ 64 - c % 2 ^ 64) % 2 ^ 64 * value_monomial m s + t) % 2 ^ 64)
    (value_negation p s)
    ∙ negated_term 18446744073709551615 c (value_monomial m s) (value_polynomial p s)

-- the form of sub denotes the difference
pub value_sub : (p q : Polynomial) (s : Valuation) (lawful : IsLawful s) → value_polynomial (norm_sub p q) s
    ≡ apply Sub (value_polynomial p s) (value_polynomial q s)
unfolding apply
value_sub p q s lawful =
    let h = value_polynomial_is_word q s in
    value_add p (negation q) s lawful
    ∙ (ap (λ t. (value_polynomial p s + t) % 2 ^ 64) (value_negation q s
    ∙ negative 18446744073709551615 (value_polynomial q s) (omega arith))
    ∙ add-mod-mod (value_polynomial p s) (2 ^ 64 - value_polynomial q s) (2 ^ 64))

-- a constant denotes its number modulo 2^64
pub value_constant : (c : ℕ) (s : Valuation) → value_polynomial (constant c) s ≡ c % 2 ^ 64
value_constant c s = if_cases (λ q. value_polynomial q s ≡ c % 2 ^ 64) (c % 2 ^ 64 == 0) _ _
    (λ e. sym (eqb-true _ _ e))
    (λ e. simp (mul-one, add-zero, mod-mod))

-- a polynomial that is a constant denotes it
pub value_constant_of : (p : Polynomial) (c : ℕ) (s : Valuation) → constant_of p ≡ Some c → value_polynomial p s ≡ c
value_constant_of nought c s e = cc
value_constant_of (plus one d nought) c s e = let h : d % 2 ^ 64 ≡ c = cc in simp (mul-one, add-zero, mod-mod) h
value_constant_of (plus one d (plus n b q)) c s e = cc
value_constant_of (plus (times a m) d p) c s e = cc
