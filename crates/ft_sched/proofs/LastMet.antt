-- The last place of an element that passes a test, as the list grows and as its front advances.
use Rattle.std.proofs.Common.{◌≡◌, ℕ, zero, suc, ◌<◌, Bool, true, false, cond, ◌||◌, ◌==◌, nat_lt, List, [], ◌∷◌, ◌++◌}
use Rattle.std.proofs.Common.{length, drop, refl, sym, ap, ◌∙◌, subst, arith}
use Rattle.std.specs.Prelude.{slice_index_or}
use Rattle.std.specs.List.{list_any, slice_set}
use Rattle.std.proofs.lemmas.Bool.{cases_eq, ltb-true, lt-ltb, ne_eqb}
use Rattle.std.proofs.Common.{eq-eqb, ⊎_elim}
use Rattle.std.proofs.lemmas.List.{get_or-set_same, get_or-set_other}
use Rattle.ft_isa.specs.declared.instr.Instr.{Instr}
use Rattle.ft_sched.specs.LastPlaces.{or_first, last_place}

-- if an appended instruction passes the test, its place is the last one, whether or not the first instruction passes
or_more : (n : ℕ) (t b : Bool) (m : ℕ) → or_first (cond t (suc n) m) b ≡ cond t (suc (suc n)) (or_first m b)
or_more n true b m = refl
or_more n false b m = refl

pub last_more : (test : Instr → Bool) (is : List Instr) (i : Instr) → last_place test (is ++ i ∷ [])
    ≡ cond (test i) (suc (length is)) (last_place test is)
last_more test [] i = refl
last_more test (j ∷ is) i = ap (λ n. or_first n (test j)) (last_more test is i)
    ∙ or_more (length is) (test i) (test j) (last_place test is)

-- equivalent comparisons are equal
same_order : (a b c d : ℕ) → (a < b → c < d) → (c < d → a < b) → nat_lt a b ≡ nat_lt c d
same_order a b c d f g = by_tests (nat_lt a b) (nat_lt c d) refl refl
  where
    by_tests : (s t : Bool) → nat_lt a b ≡ s → nat_lt c d ≡ t → nat_lt a b ≡ nat_lt c d
    by_tests true t e h = e ∙ sym (lt-ltb c d (f (ltb-true a b e)))
    by_tests false true e h = lt-ltb a b (g (ltb-true c d h)) ∙ sym h
    by_tests false false e h = e ∙ sym h

pub below_none : (f : ℕ) → nat_lt f 0 ≡ false
below_none f = by_test (nat_lt f 0) refl
  where
    by_test : (t : Bool) → nat_lt f 0 ≡ t → nat_lt f 0 ≡ false
    by_test true e = absurd (let l = ltb-true f 0 e in omega arith)
    by_test false e = e

above_none : (n : ℕ) → nat_lt 0 (suc n) ≡ true
above_none n = lt-ltb 0 (suc n) (omega arith)

-- there is a last place exactly when the first instruction passes the test or the rest has a last place
behind_first : (n : ℕ) (t a : Bool) → nat_lt 0 n ≡ a → nat_lt 0 (or_first n t) ≡ (t || a)
behind_first zero true a e = above_none 0
behind_first zero false a e = e
behind_first (suc n) true a e = above_none (suc n)
behind_first (suc n) false a e = above_none (suc n) ∙ sym (above_none n) ∙ e

behind_next : (f n : ℕ) (t : Bool) → nat_lt (suc f) (or_first n t) ≡ nat_lt f n
behind_next f zero true = same_order (suc f) 1 f 0 (λ h. omega arith) (λ h. omega arith)
behind_next f zero false = same_order (suc f) 0 f 0 (λ h. omega arith) (λ h. omega arith)
behind_next f (suc n) t = same_order (suc f) (suc (suc n)) f (suc n) (λ h. omega arith) (λ h. omega arith)

pub is_behind : (test : Instr → Bool) (is : List Instr) (f : ℕ) → nat_lt f (last_place test is)
    ≡ list_any test (drop f is)
is_behind test [] zero = below_none 0
is_behind test [] (suc f) = below_none (suc f)
is_behind test (i ∷ is) zero = behind_first (last_place test is) (test i) (list_any test is) (is_behind test is zero)
is_behind test (i ∷ is) (suc f) = behind_next f (last_place test is) (test i) ∙ is_behind test is f

-- MARKS

-- after place p is recorded for register r, that register has place p and the others are unchanged
pub marked_at : (ps : List ℕ) (r p q : ℕ) → r < length ps → slice_index_or (slice_set ps r p) q 0
    ≡ cond (r == q) p (slice_index_or ps q 0)
marked_at ps r p q l =
    ⊎_elim
    (λ (e : q ≡ r). subst (λ z. slice_index_or (slice_set ps r p) z 0 ≡ cond (r == z) p (slice_index_or ps z 0)) (sym e)
    (get_or-set_same ps r p 0 l ∙ ap (λ b. cond b p (slice_index_or ps r 0)) (sym (eq-eqb r r refl))))
    (λ (ne : q ≡ r → ⊥). get_or-set_other ps r q p 0 ne
    ∙ ap (λ b. cond b p (slice_index_or ps q 0)) (sym (ne_eqb r q (λ (f : r ≡ q). ne (sym f)))))
    (cases_eq q r)
