-- Set pairs are known.
use Rattle.std.proofs.Common.{◌≡◌, ◌≢◌, ℕ, zero, suc, ◌<◌, ◌≤◌, Bool, true, false, cond, not, [], ◌∷◌}
use Rattle.std.proofs.Common.{length, inl, inr, Option, Some, None, refl, sym, ap, ◌∙◌, subst, arith, get_or, take}
use Rattle.std.specs.Prelude.{slice_set}
use Rattle.std.specs.List.{list_all}
use Rattle.std.specs.Option.{is_some, unwrap_or}
use Rattle.std.proofs.lemmas.Bool.{ne_eqb, eq-eqb, cases_eq, lt-ltb, not-true}
use Rattle.std.proofs.lemmas.List.{get_or-set_other, length-set, get_or-replicate, length-replicate}
use Rattle.std.proofs.lemmas.List.Quantifiers.{position-Some}
use Rattle.ft_lower.specs.Well.{Known, pairs_below, learn, forget}
use Rattle.ft_lower.proofs.Whole.{clash}
use Rattle.ft_flow.specs.Spares.{Set, is_set, unset_in, spare_of}
use Rattle.ft_flow.specs.Faults.{none_set, pairs_set, variables_set}

-- there are 32 pairs, and each pair that is set is known
pub record Agrees (s : Set) (k : Known) : Type 0 where
  pub many : length s ≡ 32
  pub known : (q : ℕ) → q < 32 → is_set s q ≡ true → k q ≡ true

-- no pair is set at the start
pub none_agrees : (k : Known) → Agrees none_set k
none_agrees k = record {
  many = length-replicate 32 false;
  known = λ q lt e. absurd (clash (is_set none_set q) e (get_or-replicate 32 q false false lt));
}

-- there are 32 pairs
pub pairs_many : (n : ℕ) → length (pairs_set n) ≡ 32
pairs_many zero = length-replicate 32 false
pairs_many (suc n) = length-set (pairs_set n) n true ∙ pairs_many n

-- a pair that is set is below n
set_below : (n q : ℕ) → q < 32 → is_set (pairs_set n) q ≡ true → q < n
set_below zero q lt e = absurd (clash (is_set none_set q) e (get_or-replicate 32 q false false lt))
set_below (suc n) q lt e = elim (cases_eq q n) [
  | inl same ↦ omega (arith, same)
  | inr ne ↦ (let r = set_below n q lt (sym (get_or-set_other (pairs_set n) n q true false ne) ∙ e) in omega (arith, r))
]

-- at the start of another block the variables are known
pub variables_agree : (n : ℕ) → Agrees (pairs_set n) (pairs_below n)
variables_agree n = record { many = pairs_many n; known = λ q lt e. lt-ltb q n (set_below n q lt e) }

-- a pair that a step sets is known
pub learn_agrees : (p : ℕ) (s : Set) (k : Known) → Agrees s k → Agrees (slice_set s p true) (learn p k)
learn_agrees p s k A = record {
  many = length-set s p true ∙ A.many;
  known = λ q lt e. elim (cases_eq q p) [
    | inl same ↦ ap (λ b. cond b true (k q)) (eq-eqb q p same)
    | inr ne ↦ ap (λ b. cond b true (k q)) (ne_eqb q p ne)
        ∙ A.known q lt (sym (get_or-set_other s p q true false ne) ∙ e)
  ];
}

-- the pair that is found is not set
pub record IsUnset (s : Set) (n : ℕ) : Type 0 where
  pub there : n < length s
  pub unset : is_set s n ≡ false

-- the spare of a set that has a pair left
pub spare_unset : (s : Set) → is_some (unset_in s) ≡ true → IsUnset s (spare_of s)
spare_unset s e = by (unset_in s) refl e
  where
    by : (o : Option ℕ) → unset_in s ≡ o → is_some o ≡ true → IsUnset s (unwrap_or o 0)
    by None at e = absurd (clash false e refl)
    by (Some n) at e =
        let P = position-Some (λ b. not b) s n false at in
        record { there = P.0; unset = not-true (get_or s n false) P.1 }

-- a set pair is not an unset one
pub set_differs : (s : Set) (n q : ℕ) → is_set s n ≡ false → is_set s q ≡ true → q ≢ n
set_differs s n q unset yet same = clash (is_set s n) (subst (λ x. is_set s x ≡ true) same yet) unset

-- forgetting a pair that is not set changes nothing
pub forget_agrees : (n : ℕ) (s : Set) (k : Known) → is_set s n ≡ false → Agrees s k → Agrees s (forget n k)
forget_agrees n s k unset A = record {
  many = A.many;
  known = λ q lt e.
      ap (λ b. cond b false (k q)) (ne_eqb q n (set_differs s n q unset e)) ∙ A.known q lt e;
}

-- if each of the first n elements is true, element x is
first_true : (s : Set) (n x : ℕ) → x < n → x < length s → list_all (λ b. b) (take n s) ≡ true → is_set s x ≡ true
first_true [] n x lt le e = absurd (omega (arith, le))
first_true (b ∷ s) zero x lt le e = absurd (omega (arith, lt))
first_true (true ∷ s) (suc n) zero lt le e = refl
first_true (true ∷ s) (suc n) (suc x) lt le e = first_true s n x (omega (arith, lt)) (omega (arith, le)) e
first_true (false ∷ s) (suc n) x lt le e = absurd (clash false e refl)

-- each variable is set
pub variable_set : (s : Set) (n x : ℕ) → length s ≡ 32 → n ≤ 32 → x < n → variables_set n s ≡ true → is_set s x ≡ true
variable_set s n x many few lt e = first_true s n x lt (omega (arith, many, few, lt)) e
