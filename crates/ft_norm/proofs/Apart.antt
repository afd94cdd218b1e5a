-- Two polynomials differ by a nonzero constant exactly when they differ only in their constants.
use Rattle.std.proofs.Common.{ℕ, ◌≡◌, ◌≢◌, ◌+◌, ◌-◌, ◌%◌, ◌^◌, ◌<◌, ◌==◌, Bool, true, false, if◌then◌else◌, List, []}
use Rattle.std.proofs.Common.{◌∷◌, refl, sym, ap, ◌∙◌, subst, arith, lit<, true≢false, Decides}
use Rattle.std.proofs.Math.Nat.{mod-lt, mod-eq_of_lt}
use Rattle.std.proofs.lemmas.Bool.{eqb-true, eqb-false}
use Rattle.ft_static.specs.Coefficient.{share}
use Rattle.ft_static.specs.Form.{Form, Monomial, Polynomial, nought, one, plus, times}
use Rattle.ft_static.specs.NormalForm.{add_term, constant_of, is_not_zero, negation, norm_sub, total}
use Rattle.ft_static.proofs.Cases.{if_cases}
use Rattle.ft_norm.specs.declared.entry.Term.{Term}
use Rattle.ft_norm.specs.Entries.{polynomial_form, size}
use Rattle.ft_norm.specs.Orders.{AreTerms, Precedes}
use Rattle.ft_norm.specs.Terms.{AreOver, constant_among, others}
use Rattle.ft_norm.proofs.Adding.{add_none}
use Rattle.ft_norm.proofs.Limits.{constant_sum, no_atom}
use Rattle.ft_norm.proofs.Numbers.{no_numbers, none, none_below}
use Rattle.ft_norm.proofs.Single.{gives_none, one_polynomial, rest_over, weigh_form}
use Rattle.ft_norm.proofs.Sums.{form_rises}
use Rattle.ft_norm.proofs.Weights.{Rises, known, rises_add, rises_negation, rises_total, share_linear, share_negation}
use Rattle.ft_norm.proofs.Weights.{weigh, weigh_add, weigh_first, weigh_negation, weigh_total, words_same}

-- what holds in both cases, whether n is 0 or not, holds of the values chosen by the test
first_split : (P : ℕ → List Term → Type 0) (n c : ℕ) (ts us : List Term) → (n ≡ 0 → P c ts) → ((n ≡ 0 → ⊥) → P 0 us) →
    P (if n == 0 then c else 0) (if n == 0 then ts else us)
first_split P n c ts us f g = go (n == 0) refl
  where
    go : (b : Bool) → (n == 0) ≡ b → P (if b then c else 0) (if b then ts else us)
    go true e = f (eqb-true n 0 e)
    go false e = g (eqb-false n 0 e)

-- the polynomial of terms is that of the others plus the constant
pub split_form : (fs : List Form) (ts : List Term) → AreTerms ts → polynomial_form fs ts
    ≡ add_term one (constant_among ts) (polynomial_form fs (others ts))
split_form fs [] h = refl
split_form fs (t ∷ ts) h = first_split (λ c us. polynomial_form fs (t ∷ ts) ≡ add_term one c (polynomial_form fs us))
    (size t.atoms) t.coefficient ts (t ∷ ts)
    (λ e. ap (λ m. add_term m t.coefficient (polynomial_form fs ts)) (no_atom fs t.atoms e))
    (λ n. sym (add_none one (polynomial_form fs (t ∷ ts)) (form_rises fs (t ∷ ts) h)))

-- the others are over the same forms
others_over : (fs : List Form) (ts : List Term) → AreOver fs ts → AreOver fs (others ts)
others_over fs [] h = h
others_over fs (t ∷ ts) h = first_split (λ c us. AreOver fs us) (size t.atoms) 0 ts (t ∷ ts) (λ e.
    rest_over fs t ts h) (λ n. h)

-- the monomial without atoms precedes the others
others_follow : (ts : List Term) → AreTerms ts → Precedes none (others ts)
others_follow [] h = tt
others_follow (t ∷ ts) h = first_split (λ c us. Precedes none us) (size t.atoms) 0 ts (t ∷ ts)
    (λ e. subst (λ xs. Precedes xs ts) (no_numbers t.atoms h.0.0 e) h.3)
    (λ n. none_below t.atoms h.0.0 n)

-- so the others contribute nothing to it
others_give : (fs : List Form) (ts : List Term) → AreOver fs ts →
    weigh (share one) (polynomial_form fs (others ts)) % 2 ^ 64 ≡ 0
others_give fs ts h =
    let o = others_over fs ts h in
    weigh_form fs one (others ts) ∙ ap (λ n. n % 2 ^ 64) (gives_none fs h.distinct none (others ts) (
      refl,
      (omega arith, (omega arith, (omega arith, (tt, tt)))),
    ) (omega arith) o.terms o.reach (others_follow ts h.terms))

-- the constant is a word
constant_word : (ts : List Term) → AreTerms ts → constant_among ts < 2 ^ 64
constant_word [] h = lit< tt
constant_word (t ∷ ts) h = first_split (λ c us. c < 2 ^ 64) (size t.atoms) t.coefficient [] [] (λ e. h.2) (λ n. lit< tt)

-- what terms contribute to a monomial is what their constant and the others contribute
weigh_split : (fs : List Form) (k : Monomial) (ts : List Term) → AreTerms ts
    → weigh (share k) (polynomial_form fs ts) % 2 ^ 64
    ≡ (share k one (constant_among ts) + weigh (share k) (polynomial_form fs (others ts))) % 2 ^ 64
weigh_split fs k ts h = ap (λ p. weigh (share k) p % 2 ^ 64) (split_form fs ts h)
    ∙ weigh_add (share k) (share_linear k) one (constant_among ts) (polynomial_form fs (others ts))

-- a polynomial that is not a single constant term is not a nonzero constant
no_constant : (p : Polynomial) → ((e : ℕ) → p ≡ plus one e nought → ⊥) → false ≡ is_not_zero (constant_of p)
no_constant nought h = refl
no_constant (plus one e nought) h = absurd (h e refl)
no_constant (plus one e (plus n d p)) h = refl
no_constant (plus (times a m) e p) h = refl

-- the polynomial of a nonzero word is a nonzero constant
some_constant : (e : ℕ) → (e ≡ 0 → ⊥) → e < 2 ^ 64 → true ≡ is_not_zero (constant_of (add_term one e nought))
some_constant e n l = if_cases (λ p. true ≡ is_not_zero (constant_of p)) (e == 0) nought (plus one e nought)
    (λ q. absurd (n (eqb-true e 0 q)))
    (λ q. let m : e % 2 ^ 64 ≡ e = mod-eq_of_lt l in rw (m, q) refl)

module _ (fs : List Form) (ps qs : List Term) (a : AreOver fs ps) (b : AreOver fs qs) where
  -- the difference of the polynomials
  abbrev difference : Polynomial
  difference = total (polynomial_form fs ps) (negation (polynomial_form fs qs))

  difference_rises : Rises difference
  difference_rises = rises_total (polynomial_form fs ps) (negation (polynomial_form fs qs)) (form_rises fs ps a.terms)
      (rises_negation (polynomial_form fs qs) (form_rises fs qs b.terms))

  -- what the difference contributes to a monomial
  weigh_difference : (k : Monomial) → (weigh (share k) difference + weigh (share k) (polynomial_form fs qs)) % 2 ^ 64
      ≡ weigh (share k) (polynomial_form fs ps) % 2 ^ 64
  weigh_difference k =
      let x = weigh_total (share k) (share_linear k) (polynomial_form fs ps) (negation (polynomial_form fs qs)) in
      let y = weigh_negation k (polynomial_form fs qs) in
      omega (arith, x, y)

  -- if the other terms are the same, the polynomials differ by the difference of the constants
  same_others : polynomial_form fs (others ps) ≡ polynomial_form fs (others qs)
      → difference ≡ add_term one ((constant_among ps + (2 ^ 64 - constant_among qs % 2 ^ 64) % 2 ^ 64) % 2 ^ 64) nought
  same_others s = known difference (add_term one e nought) difference_rises
      (rises_add one e nought (mod-lt _ (lit< tt)) tt) (λ k.
      let w = weigh_difference k in
      let x = weigh_split fs k ps a.terms in
      let y = weigh_split fs k qs b.terms in
      let r = ap (weigh (share k)) s in
      let z = share_negation k one (constant_among qs) in
      let l = (share_linear k).sum one (constant_among ps) ((2 ^ 64 - constant_among qs % 2 ^ 64) % 2 ^ 64) in
      let m = weigh_add (share k) (share_linear k) one e nought in
      opposite (weigh (share k) difference) (weigh (share k) (polynomial_form fs ps))
      (weigh (share k) (polynomial_form fs qs)) (share k one (constant_among ps)) (share k one (constant_among qs))
      (share k one ((2 ^ 64 - constant_among qs % 2 ^ 64) % 2 ^ 64)) (share k one e)
      (weigh (share k) (polynomial_form fs (others ps))) (weigh (share k) (polynomial_form fs (others qs)))
      (weigh (share k) (add_term one e nought)) w x y r z l m)
    where
      e : ℕ
      e = (constant_among ps + (2 ^ 64 - constant_among qs % 2 ^ 64) % 2 ^ 64) % 2 ^ 64

      opposite : (d p q c f n g r s t : ℕ) → (d + q) % 2 ^ 64 ≡ p % 2 ^ 64 → p % 2 ^ 64 ≡ (c + r) % 2 ^ 64 → q % 2 ^ 64
          ≡ (f + s) % 2 ^ 64 → r ≡ s → (n + f) % 2 ^ 64 ≡ 0 → g % 2 ^ 64 ≡ (c + n) % 2 ^ 64 → t % 2 ^ 64
          ≡ (g + 0) % 2 ^ 64 → d % 2 ^ 64 ≡ t % 2 ^ 64
      opposite d p q c f n g r s t w x y e z l m = omega (arith, w, x, y, e, z, l, m)

  -- polynomials that differ only in their constants are found to differ
  pub apart : constant_among ps ≢ constant_among qs → others ps ≡ others qs → true
      ≡ is_not_zero (constant_of (norm_sub (polynomial_form fs ps) (polynomial_form fs qs)))
  apart n s =
      let c = constant_word ps a.terms in
      let d = constant_word qs b.terms in
      let e = same_others (ap (polynomial_form fs) s) in
      some_constant _ (λ z. n (alike (constant_among ps) (constant_among qs) c d z)) (mod-lt _ (lit< tt))
      ∙ (ap (λ p. is_not_zero (constant_of p)) (sym e)
      ∙ ap is_not_zero (constant_sum (polynomial_form fs ps) (negation (polynomial_form fs qs))))
    where
      alike : (c d : ℕ) → c < 2 ^ 64 → d < 2 ^ 64 → (c + (2 ^ 64 - d % 2 ^ 64) % 2 ^ 64) % 2 ^ 64 ≡ 0 → c ≡ d
      alike c d l m z = omega (arith, l, m, z)

  -- if the difference is a nonzero constant, the constants differ
  constants_differ : (e : ℕ) → difference ≡ plus one e nought → constant_among ps ≢ constant_among qs
  constants_differ e q z =
      let r : Rises (plus one e nought) = subst Rises q difference_rises in
      let w = weigh_difference one in
      let v = ap (weigh (share one)) q in
      let x = weigh_split fs one ps a.terms in
      let y = weigh_split fs one qs b.terms in
      let o = others_give fs ps a in
      let u = others_give fs qs b in
      let m : (weigh (share one) (plus one e nought)) % 2 ^ 64
      ≡ 0 = none (weigh (share one) difference) (weigh (share one) (plus one e nought)) _ _ _ _ _ _ v w x y z o u in
      let n = words_same e 0 (ap (λ t. t % 2 ^ 64) (sym (weigh_first one e nought r)) ∙ m) r.1 (lit< tt) in
      let p = r.0 in
      omega (arith, n, p)
    where
      none : (d g p q c f r s : ℕ) → d ≡ g → (d + q) % 2 ^ 64 ≡ p % 2 ^ 64 → p % 2 ^ 64 ≡ (c + r) % 2 ^ 64 → q % 2 ^ 64
          ≡ (f + s) % 2 ^ 64 → c ≡ f → r % 2 ^ 64 ≡ 0 → s % 2 ^ 64 ≡ 0 → g % 2 ^ 64 ≡ 0
      none d g p q c f r s v w x y z o u = omega (arith, v, w, x, y, z, o, u)

  -- if the difference is a nonzero constant, the other terms are the same
  others_same : (e : ℕ) → difference ≡ plus one e nought → others ps ≡ others qs
  others_same e q =
      let o = others_over fs ps a in
      let u = others_over fs qs b in
      one_polynomial fs a.distinct (others ps) (others qs) o.terms u.terms o.reach u.reach
      (known (polynomial_form fs (others ps)) (polynomial_form fs (others qs)) (form_rises fs (others ps) o.terms)
      (form_rises fs (others qs) u.terms) weighs)
    where
      weighs : (k : Monomial) → weigh (share k) (polynomial_form fs (others ps)) % 2 ^ 64
          ≡ weigh (share k) (polynomial_form fs (others qs)) % 2 ^ 64
      weighs one = others_give fs ps a ∙ sym (others_give fs qs b)
      weighs (times h m) =
          let w = weigh_difference (times h m) in
          let v = ap (weigh (share (times h m))) q in
          let x = weigh_split fs (times h m) ps a.terms in
          let y = weigh_split fs (times h m) qs b.terms in
          omega (arith, v, w, x, y)

  -- polynomials are not found to differ unless their constants differ and their other terms are the same
  pub not_apart : ((constant_among ps ≢ constant_among qs) → others ps ≡ others qs → ⊥) → false
      ≡ is_not_zero (constant_of (norm_sub (polynomial_form fs ps) (polynomial_form fs qs)))
  not_apart n =
      no_constant difference (λ e q. n (constants_differ e q) (others_same e q))
      ∙ ap is_not_zero (constant_sum (polynomial_form fs ps) (negation (polynomial_form fs qs)))

  -- if the constants differ, comparing the other terms decides
  pub by_others : (b : Bool) → constant_among ps ≢ constant_among qs → Decides b (others ps ≡ others qs) → b
      ≡ is_not_zero (constant_of (norm_sub (polynomial_form fs ps) (polynomial_form fs qs)))
  by_others true n d = apart n (d.0 refl)
  by_others false n d = not_apart (λ m s. true≢false (sym (d.1 s)))

  -- if the difference is a nonzero constant, the other terms are the same
  pub apart_others : is_not_zero (constant_of (norm_sub (polynomial_form fs ps) (polynomial_form fs qs))) ≡ true →
      others ps ≡ others qs
  apart_others h =
      let r = some_number difference (ap is_not_zero (constant_sum (polynomial_form fs ps)
      (negation (polynomial_form fs qs))) ∙ h) in
      others_same r.0 r.1
    where
      some_number : (p : Polynomial) → is_not_zero (constant_of p) ≡ true → (e : ℕ) × (p ≡ plus one e nought)
      some_number nought h = cc
      some_number (plus one e nought) h = (e, refl)
      some_number (plus one e (plus n d p)) h = cc
      some_number (plus (times a m) e p) h = cc
