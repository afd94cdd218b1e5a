-- Machines that take steps: stretches of steps, and machines that follow others.
use Rattle.std.proofs.Common.{◌≡◌, ℕ, zero, suc, ◌+◌, refl, sym, ap, ◌∙◌, subst, zero-add, suc-add}

-- n steps in a row
abbrev pub iterate : {S : Type 0} → (S → S) → ℕ → S → S
iterate step zero s = s
iterate step (suc k) s = iterate step k (step s)

-- k + 1 steps are k steps and then one more
pub iterate_last : {S : Type 0} (step : S → S) (k : ℕ) (s : S) → iterate step (suc k) s ≡ step (iterate step k s)
iterate_last step zero s = refl
iterate_last step (suc k) s = iterate_last step k (step s)

-- j + k steps are j steps and then k
pub iterate_on : {S : Type 0} (step : S → S) (j k : ℕ) (s : S)
    → iterate step (j + k) s ≡ iterate step k (iterate step j s)
iterate_on step zero k s = ap (λ m. iterate step m s) (zero-add k)
iterate_on step (suc j) k s = ap (λ m. iterate step m s) (suc-add j k) ∙ iterate_on step j k (step s)

-- j steps lead from one state to another
pub record Leads {S : Type 0} (step : S → S) (j : ℕ) (s t : S) : Type 0 where
  pub is : iterate step j s ≡ t

-- consecutive stretches join
pub lead_on : {S : Type 0} (step : S → S) (i j : ℕ) (s t u : S) → Leads step i s t → Leads step j t u →
    Leads step (i + j) s u
lead_on step i j s t u p q = record { is = iterate_on step i j s ∙ ap (iterate step j) p.is ∙ q.is }

-- the cost of k steps, each of which has a cost of its own
abbrev pub cost : {S : Type 0} → (S → S) → (S → ℕ) → ℕ → S → ℕ
cost step each zero s = 0
cost step each (suc k) s = each s + cost step each k (step s)

-- if another machine takes some steps, or none, for each step of one machine and so reaches a related state, it also
-- does so for any number of steps
pub follows : {S T : Type 0} (f : S → S) (each : S → ℕ) (g : T → T) (R : S → T → Type 0) →
    ((s : S) (t : T) → R s t → R (f s) (iterate g (each s) t)) → (k : ℕ) (s : S) (t : T) → R s t →
    R (iterate f k s) (iterate g (cost f each k s) t)
follows f each g R one zero s t h = h
follows f each g R one (suc k) s t h =
    subst (R (iterate f k (f s))) (sym (iterate_on g (each s) (cost f each k (f s)) t))
    (follows f each g R one k (f s) (iterate g (each s) t) (one s t h))
