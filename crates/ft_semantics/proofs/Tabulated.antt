-- Maps with numbered entries: what they hold at their keys.
use Rattle.std.proofs.Common.{◌≡◌, ℕ, zero, suc, ◌<◌, false, cond, Some, None, ap, sym, ◌∙◌, arith, ◌==◌, inl, inr}
use Rattle.std.proofs.lemmas.Bool.Decides.{eqb_tells, nat_tests}
use Rattle.std.specs.Ordering.{nat_cmp}
use Rattle.std.specs.FinMap.{get, get-empty}
use Rattle.ft_isa.specs.Words.{cell_address}
use Rattle.ft_types.proofs.Maps.{get-insert}
use Rattle.ft_semantics.specs.State.{tabulate}

-- different numbers have different keys
abbrev pub Tells : (ℕ → ℕ) → Type 0
Tells key = (i j : ℕ) → (key i == key j) ≡ (i == j)

-- different cells have different addresses
pub cells_tell : Tells cell_address
cells_tell i j = grind (arith, nat_tests)

-- if k is below n, a map with n entries holds the value of entry k at its key
pub tabulated : {X : Type 0} (n : ℕ) (key : ℕ → ℕ) → Tells key → (f : ℕ → X) (k : ℕ) → k < n →
    get (tabulate n key f) (key k) ≡ Some (f k)
unfolding tabulate
tabulated zero key tells f k h = absurd (omega arith)
tabulated (suc n) key tells f k h =
    get-insert (tabulate n key f) (key n) (f n) (key k)
    ∙ ap (λ b. cond b (Some (f n)) (get (tabulate n key f) (key k))) (tells k n)
    ∙ elim (eqb_tells k n) [
      | inl e ↦ ap (λ b. cond b (Some (f n)) (get (tabulate n key f) (key k))) e.0 ∙ ap (λ i. Some (f i)) (sym e.1)
      | inr e ↦ ap (λ b. cond b (Some (f n)) (get (tabulate n key f) (key k))) e.0
          ∙ tabulated n key tells f k (below k n h e.1)
    ]
  where
    below : (k n : ℕ) → k < suc n → (k ≡ n → ⊥) → k < n
    below k n h apart = omega arith

-- a key that belongs to no entry has no value
pub untabulated : {X : Type 0} (n : ℕ) (key : ℕ → ℕ) (f : ℕ → X) (q : ℕ) → ((i : ℕ) → i < n → (q == key i) ≡ false) →
    get (tabulate n key f) q ≡ None
unfolding tabulate
untabulated zero key f q h = get-empty nat_cmp q
untabulated (suc n) key f q h =
    get-insert (tabulate n key f) (key n) (f n) q
    ∙ ap (λ b. cond b (Some (f n)) (get (tabulate n key f) q)) (h n (omega arith))
    ∙ untabulated n key f q (λ i below. h i (omega arith))
