-- A polynomial is determined by the sum of what its terms contribute to each monomial, modulo 2^64.
use Rattle.std.proofs.Common.{ℕ, ◌≡◌, ◌+◌, ◌*◌, ◌-◌, ◌%◌, ◌^◌, ◌<◌, ◌==◌, refl, sym, ap, ◌∙◌, arith, lit<, zero-add}
use Rattle.std.proofs.Math.Nat.{mod-lt, mod-eq_of_lt, mod-mod, mod-add-mod, mul-add, add-mul, mul-zero, zero-mul}
use Rattle.std.proofs.lemmas.Bool.{eqb-true, eqb-false}
use Rattle.std.proofs.lemmas.Nat.{mul-mod_first, mul-mod_second}
use Rattle.std.proofs.lemmas.Cmp.{tied_itself}
use Rattle.std.specs.declared.cmp.Ordering.TheVariants.{Less}
use Rattle.ft_static.specs.Coefficient.{share}
use Rattle.ft_static.specs.Form.{Monomial, Polynomial, nought, plus, cmp_monomial, Below}
use Rattle.ft_static.specs.NormalForm.{add_multiple, add_products, add_term, join, led_by, negation, total}
use Rattle.ft_static.proofs.Cases.{by_cases, if_cases}
use Rattle.ft_static.proofs.Proper.{below_more, turned, below_led, below_negation}
use Rattle.ft_static.proofs.Spelled.{cmp_monomial_total, monomial_equal}
use Rattle.ft_static.proofs.Coefficients.{order_split}

-- monomials are strictly increasing, and coefficients are words other than 0
abbrev pub Rises : Polynomial → Type 0
Rises nought = Unit {0}
Rises (plus m c p) = (0 < c) × (c < 2 ^ 64) × Below m p × Rises p

-- a monomial below a polynomial stays below it when a larger term is added
below_add : (k m : Monomial) (c : ℕ) (p : Polynomial) → cmp_monomial k m ≡ Less → Below k p → Rises p →
    Below k (add_term m c p)
below_add k m c nought h g w = below_led k m c nought h tt
below_add k m c (plus n d p) h g w = by_cases (λ q. Below k q) (cmp_monomial m n) (led_by m c (plus n d p))
    (led_by n ((c + d) % 2 ^ 64) p) (plus n d (add_term m c p))
    (λ e. below_led k m c (plus n d p) h g)
    (λ e. below_led k n ((c + d) % 2 ^ 64) p g (below_more k n p g w.2))
    (λ e. g)

-- a smaller term in front keeps the order
rises_led : (m : Monomial) (c : ℕ) (p : Polynomial) → c < 2 ^ 64 → Below m p → Rises p → Rises (led_by m c p)
rises_led m c p l b w = if_cases (λ q. Rises q) (c == 0) p (plus m c p) (λ e. w) (λ e.
    ((let n = eqb-false c 0 e in omega arith), l, b, w))

-- adding a term keeps the order
pub rises_add : (m : Monomial) (c : ℕ) (p : Polynomial) → c < 2 ^ 64 → Rises p → Rises (add_term m c p)
rises_add m c nought l w = rises_led m c nought l tt tt
rises_add m c (plus n d p) l w = by_cases (λ q. Rises q) (cmp_monomial m n) (led_by m c (plus n d p))
    (led_by n ((c + d) % 2 ^ 64) p) (plus n d (add_term m c p))
    (λ e. rises_led m c (plus n d p) l e w)
    (λ e. rises_led n ((c + d) % 2 ^ 64) p (mod-lt _ (lit< tt)) w.2 w.3)
    (λ e. (w.0, w.1, below_add n m c p (turned _ _ (cmp_monomial_total.antisymm n m) e) w.2 w.3, rises_add m c p l w.3))

-- the sum of two ordered polynomials is ordered
pub rises_total : (p q : Polynomial) → Rises p → Rises q → Rises (total p q)
rises_total nought q h k = k
rises_total (plus m c p) q h k = rises_total p (add_term m c q) h.3 (rises_add m c q h.1 k)

-- adding the products with one term keeps the order
pub rises_multiple : (m : Monomial) (c : ℕ) (p q : Polynomial) → Rises q → Rises (add_multiple m c p q)
rises_multiple m c nought q k = k
rises_multiple m c (plus n d p) q k = rises_multiple m c p (add_term (join m n) ((c * d) % 2 ^ 64) q)
    (rises_add (join m n) ((c * d) % 2 ^ 64) q (mod-lt _ (lit< tt)) k)

-- adding all products keeps the order
pub rises_products : (p q r : Polynomial) → Rises r → Rises (add_products p q r)
rises_products nought q r k = k
rises_products (plus m c p) q r k = rises_products p q (add_multiple m c q r) (rises_multiple m c q r k)

-- the negation of a word c other than 0 is 2^64 - c
pub negative : (c : ℕ) → 0 < c → c < 2 ^ 64 → (2 ^ 64 - c % 2 ^ 64) % 2 ^ 64 ≡ 2 ^ 64 - c
negative c h l = let e : c % 18446744073709551616 ≡ c = mod-eq_of_lt l in rw e (mod-eq_of_lt (omega (arith, h, l)))

-- a negation keeps the order
pub rises_negation : (p : Polynomial) → Rises p → Rises (negation p)
rises_negation nought h = tt
rises_negation (plus m c p) h = (
  rw (negative c h.0 h.1) (omega (arith, h.1)),
  mod-lt _ (lit< tt),
  below_negation m p h.2,
  rises_negation p h.3,
)

-- equalities modulo 2^64 may be added
pub mods_both : (a b c d : ℕ) → a % 2 ^ 64 ≡ b % 2 ^ 64 → c % 2 ^ 64 ≡ d % 2 ^ 64 → (a + c) % 2 ^ 64 ≡ (b + d) % 2 ^ 64
mods_both a b c d e f = omega (arith, e, f)

-- the sum of what f gives for each term
abbrev pub weigh : (Monomial → ℕ → ℕ) → Polynomial → ℕ
weigh f nought = 0
weigh f (plus m c p) = f m c + weigh f p

-- f is linear in the coefficient, modulo 2^64
pub record IsLinear (f : Monomial → ℕ → ℕ) : Type 0 where
  pub none : (m : Monomial) → f m 0 % 2 ^ 64 ≡ 0
  pub sum : (m : Monomial) (c d : ℕ) → f m ((c + d) % 2 ^ 64) % 2 ^ 64 ≡ (f m c + f m d) % 2 ^ 64

module _ (f : Monomial → ℕ → ℕ) (l : IsLinear f) where
  -- putting a term in front of a polynomial adds what f gives for it
  weigh_led : (m : Monomial) (c : ℕ) (p : Polynomial) → weigh f (led_by m c p) % 2 ^ 64 ≡ (f m c + weigh f p) % 2 ^ 64
  weigh_led m c p = if_cases (λ q. weigh f q % 2 ^ 64 ≡ (f m c + weigh f p) % 2 ^ 64) (c == 0) p (plus m c p)
      (λ e. let z : f m c % 2 ^ 64 ≡ 0 = rw (eqb-true c 0 e) (l.none m) in
      ap (λ t. t % 2 ^ 64) (sym (zero-add (weigh f p))) ∙ mods_both 0 (f m c) (weigh f p) (weigh f p) (sym z) refl)
      (λ e. refl)

  -- adding a term to a polynomial adds what f gives for it
  pub weigh_add : (m : Monomial) (c : ℕ) (p : Polynomial) → weigh f (add_term m c p) % 2 ^ 64
      ≡ (f m c + weigh f p) % 2 ^ 64
  weigh_add m c nought = weigh_led m c nought
  weigh_add m c (plus n d p) = by_cases (λ q. weigh f q % 2 ^ 64 ≡ (f m c + (f n d + weigh f p)) % 2 ^ 64)
      (cmp_monomial m n) (led_by m c (plus n d p)) (led_by n ((c + d) % 2 ^ 64) p) (plus n d (add_term m c p))
      (λ e. weigh_led m c (plus n d p))
      (λ e. rw (monomial_equal m n e) (let x = weigh_led n ((c + d) % 2 ^ 64) p in let y = l.sum n c d in
      omega (arith, x, y)))
      (λ e. let x = weigh_add m c p in omega (arith, x))

  -- what f gives for a sum is the sum of what it gives for the operands, modulo 2^64
  pub weigh_total : (p q : Polynomial) → weigh f (total p q) % 2 ^ 64 ≡ (weigh f p + weigh f q) % 2 ^ 64
  weigh_total nought q = rw zero-add refl
  weigh_total (plus m c p) q = let x = weigh_total p (add_term m c q) in let y = weigh_add m c q in omega (arith, x, y)

-- what a term contributes to one monomial is linear in its coefficient
pub share_linear : (k : Monomial) → IsLinear (share k)
share_linear k = record {
  none = λ m. order_split _ (cmp_monomial k m) (λ o. rw o refl) (λ o. rw o refl) (λ o. rw o refl);
  sum = λ m c d. order_split _ (cmp_monomial k m) (λ o. rw o refl) (λ o. rw o (mod-mod (c + d) (2 ^ 64))) (λ o.
      rw o refl);
}

-- what f gives for the product of two terms
abbrev pub times_term : (Monomial → ℕ → ℕ) → Monomial → ℕ → Monomial → ℕ → ℕ
times_term f m c n d = f (join m n) ((c * d) % 2 ^ 64)

-- what f gives for the products of a term with a polynomial
abbrev pub times_terms : (Monomial → ℕ → ℕ) → Polynomial → Monomial → ℕ → ℕ
times_terms f q m c = weigh (times_term f m c) q

-- multiplication distributes over a sum in the second factor, modulo 2^64
products_sum : (c d e : ℕ) → (c * ((d + e) % 2 ^ 64)) % 2 ^ 64 ≡ ((c * d) % 2 ^ 64 + (c * e) % 2 ^ 64) % 2 ^ 64
products_sum c d e = mul-mod_second c (d + e) (2 ^ 64)
    ∙ (ap (λ t. t % 2 ^ 64) (mul-add c d e) ∙ mods_both (c * d) ((c * d) % 2 ^ 64) (c * e) ((c * e) % 2 ^ 64)
    (sym (mod-mod (c * d) (2 ^ 64))) (sym (mod-mod (c * e) (2 ^ 64))))

-- multiplication distributes over a sum in the first factor, modulo 2^64
sums_product : (c d e : ℕ) → (((c + d) % 2 ^ 64) * e) % 2 ^ 64 ≡ ((c * e) % 2 ^ 64 + (d * e) % 2 ^ 64) % 2 ^ 64
sums_product c d e = mul-mod_first (c + d) e (2 ^ 64)
    ∙ (ap (λ t. t % 2 ^ 64) (add-mul c d e) ∙ mods_both (c * e) ((c * e) % 2 ^ 64) (d * e) ((d * e) % 2 ^ 64)
    (sym (mod-mod (c * e) (2 ^ 64))) (sym (mod-mod (d * e) (2 ^ 64))))

module _ (f : Monomial → ℕ → ℕ) (l : IsLinear f) where
  -- what f gives for the product of two terms is linear in the second coefficient
  pub times_linear : (m : Monomial) (c : ℕ) → IsLinear (times_term f m c)
  times_linear m c = record {
    none = λ n. rw (mul-zero c) (l.none (join m n));
    sum = λ n d e. ap (λ t. f (join m n) t % 2 ^ 64) (products_sum c d e)
        ∙ l.sum (join m n) ((c * d) % 2 ^ 64) ((c * e) % 2 ^ 64);
  }

  -- the products of a term with the coefficient 0 contribute nothing
  no_times : (q : Polynomial) (m : Monomial) → times_terms f q m 0 % 2 ^ 64 ≡ 0
  no_times nought m = refl
  no_times (plus n d q) m =
      let x = no_times q m in
      let y : f (join m n) ((0 * d) % 2 ^ 64) % 2 ^ 64 ≡ 0 = rw (zero-mul d) (l.none (join m n)) in
      mods_both (f (join m n) ((0 * d) % 2 ^ 64)) 0 (times_terms f q m 0) 0 y x

  -- the products of a term whose coefficient is a sum contribute what those of both summands do
  sum_times : (q : Polynomial) (m : Monomial) (c d : ℕ) → times_terms f q m ((c + d) % 2 ^ 64) % 2 ^ 64
      ≡ (times_terms f q m c + times_terms f q m d) % 2 ^ 64
  sum_times nought m c d = refl
  sum_times (plus n e q) m c d =
      let x = sum_times q m c d in
      let y = ap (λ t. f (join m n) t % 2 ^ 64) (sums_product c d e)
      ∙ l.sum (join m n) ((c * e) % 2 ^ 64) ((d * e) % 2 ^ 64) in
      mods_both _ (f (join m n) ((c * e) % 2 ^ 64) + f (join m n) ((d * e) % 2 ^ 64)) _
      (times_terms f q m c + times_terms f q m d) y x
      ∙ ap (λ t. t % 2 ^ 64) (omega arith)

  -- what f gives for the products of a term with a polynomial is linear in the term's coefficient
  pub terms_linear : (q : Polynomial) → IsLinear (times_terms f q)
  terms_linear q = record { none = no_times q; sum = sum_times q }

  -- adding the products with one term adds what f gives for them
  pub weigh_multiple : (m : Monomial) (c : ℕ) (q r : Polynomial) → weigh f (add_multiple m c q r) % 2 ^ 64
      ≡ (times_terms f q m c + weigh f r) % 2 ^ 64
  weigh_multiple m c nought r = rw zero-add refl
  weigh_multiple m c (plus n d q) r =
      let x = weigh_multiple m c q (add_term (join m n) ((c * d) % 2 ^ 64) r) in
      let y = weigh_add f l (join m n) ((c * d) % 2 ^ 64) r in
      x ∙ (mods_both (times_terms f q m c) (times_terms f q m c) _ (f (join m n) ((c * d) % 2 ^ 64) + weigh f r) refl y
      ∙ ap (λ t. t % 2 ^ 64) (omega arith))

  -- adding all products adds what f gives for them
  pub weigh_products : (p q r : Polynomial) → weigh f (add_products p q r) % 2 ^ 64
      ≡ (weigh (times_terms f q) p + weigh f r) % 2 ^ 64
  weigh_products nought q r = rw zero-add refl
  weigh_products (plus m c p) q r =
      let x = weigh_products p q (add_multiple m c q r) in
      let y = weigh_multiple m c q r in
      x ∙ (mods_both (weigh (times_terms f q) p) (weigh (times_terms f q) p) _ (times_terms f q m c + weigh f r) refl y
      ∙ ap (λ t. t % 2 ^ 64) (omega arith))

-- a polynomial contributes nothing to a smaller monomial
weigh_below : (k : Monomial) (p : Polynomial) → Rises p → Below k p → weigh (share k) p ≡ 0
weigh_below k nought h b = refl
weigh_below k (plus n d p) h b = rw (b, zero-add) (weigh_below k p h.3 (below_more k n p b h.2))

-- a polynomial contributes its first coefficient to its first monomial
pub weigh_first : (m : Monomial) (c : ℕ) (p : Polynomial) → Rises (plus m c p) → weigh (share m) (plus m c p) ≡ c
weigh_first m c p h = rw (tied_itself cmp_monomial_total m, weigh_below m p h.3 h.2) (omega arith)

-- words that are equal modulo 2^64 are equal
pub words_same : (a b : ℕ) → a % 2 ^ 64 ≡ b % 2 ^ 64 → a < 2 ^ 64 → b < 2 ^ 64 → a ≡ b
words_same a b e l m = sym (mod-eq_of_lt l) ∙ (e ∙ mod-eq_of_lt m)

-- a common summand may be cancelled modulo 2^64
pub mods_less : (a b c : ℕ) → (c + a) % 2 ^ 64 ≡ (c + b) % 2 ^ 64 → a % 2 ^ 64 ≡ b % 2 ^ 64
mods_less a b c e = omega (arith, e)

-- ordered polynomials that contribute the same to each monomial are the same
pub known : (p q : Polynomial) → Rises p → Rises q →
    ((k : Monomial) → weigh (share k) p % 2 ^ 64 ≡ weigh (share k) q % 2 ^ 64) → p ≡ q
known nought nought h w e = refl
known nought (plus n d q) h w e = let x = e n in let y = weigh_first n d q w in
    absurd (let z = words_same 0 d (x ∙ ap (λ t. t % 2 ^ 64) y) (lit< tt) w.1 in omega (arith, z, w.0))
known (plus m c p) nought h w e = let x = e m in let y = weigh_first m c p h in
    absurd (let z = words_same 0 c (sym x ∙ ap (λ t. t % 2 ^ 64) y) (lit< tt) h.1 in omega (arith, z, h.0))
known (plus m c p) (plus n d q) h w e = order_split _ (cmp_monomial m n)
    (λ o. absurd (let z = words_same c 0 (ap (λ t. t % 2 ^ 64) (sym (weigh_first m c p h))
    ∙ (e m ∙ ap (λ t. t % 2 ^ 64) (weigh_below m (plus n d q) w o))) h.1 (lit< tt) in omega (arith, z, h.0)))
    (λ o.
    let t : m ≡ n = monomial_equal m n o in
    let y : weigh (share m) (plus n d q) ≡ d = ap (λ k. weigh (share k) (plus n d q)) t ∙ weigh_first n d q w in
    let u : c ≡ d = words_same c d (ap (λ x. x % 2 ^ 64) (sym (weigh_first m c p h)) ∙ (e m ∙ ap (λ x. x % 2 ^ 64) y))
    h.1 w.1 in
    let s : (k : Monomial) → share k n d ≡ share k m c = λ k. rw (t, u) refl in
    let r : p ≡ q = known p q h.3 w.3 (λ k. mods_less (weigh (share k) p) (weigh (share k) q) (share k m c) (e k
    ∙ ap (λ x. (x + weigh (share k) q) % 2 ^ 64) (s k))) in
    rw (t, u, r) refl)
    (λ o. absurd (
    let a : cmp_monomial n m ≡ Less = turned _ _ (cmp_monomial_total.antisymm n m) o in
    let z = words_same d 0 (ap (λ t. t % 2 ^ 64) (sym (weigh_first n d q w))
    ∙ (sym (e n) ∙ ap (λ t. t % 2 ^ 64) (weigh_below n (plus m c p) h a))) w.1 (lit< tt) in omega (arith, z, w.0)))

-- a coefficient and its negation add up to 0
negated_word : (c : ℕ) → ((2 ^ 64 - c % 2 ^ 64) % 2 ^ 64 + c) % 2 ^ 64 ≡ 0
negated_word c = let l : c % 2 ^ 64 < 2 ^ 64 = mod-lt c (lit< tt) in
    mod-add-mod (2 ^ 64 - c % 2 ^ 64) (2 ^ 64) c ∙ (mods_both (2 ^ 64 - c % 2 ^ 64) (2 ^ 64 - c % 2 ^ 64) c (c % 2 ^ 64)
    refl (sym (mod-mod c (2 ^ 64))) ∙ (let e : 2 ^ 64 - c % 2 ^ 64 + c % 2 ^ 64 ≡ 2 ^ 64 = omega (arith, l) in
    ap (λ t. t % 2 ^ 64) e))

-- the contributions of a term and its negation add up to 0
pub share_negation : (k m : Monomial) (c : ℕ) → (share k m ((2 ^ 64 - c % 2 ^ 64) % 2 ^ 64) + share k m c) % 2 ^ 64 ≡ 0
share_negation k m c = order_split _ (cmp_monomial k m) (λ o. rw o refl) (λ o. rw o (negated_word c)) (λ o. rw o refl)

-- the contributions of a polynomial and its negation add up to 0
pub weigh_negation : (k : Monomial) (p : Polynomial) → (weigh (share k) (negation p) + weigh (share k) p) % 2 ^ 64 ≡ 0
weigh_negation k nought = refl
weigh_negation k (plus m c p) =
    let b = share k m ((2 ^ 64 - c % 2 ^ 64) % 2 ^ 64) in
    ap (λ t. t % 2 ^ 64) (let e : b + weigh (share k) (negation p) + (share k m c + weigh (share k) p)
    ≡ (b + share k m c) + (weigh (share k) (negation p) + weigh (share k) p) = omega arith in e)
    ∙ mods_both (b + share k m c) 0 (weigh (share k) (negation p) + weigh (share k) p) 0 (share_negation k m c)
    (weigh_negation k p)
