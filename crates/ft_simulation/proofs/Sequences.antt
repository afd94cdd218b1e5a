-- Runs as sequences of states: what each step keeps, how runs end, and two runs in lockstep.
use Rattle.std.proofs.Common.{◌≡◌, ⊎_elim, ℕ, zero, suc, ◌<◌, ◌≤◌, refl, sym, ◌∙◌, subst, arith}
use Rattle.std.proofs.lemmas.Bool.{cases_eq, cases_lt}

-- if each pair of steps keeps two runs related, they are related after any number of steps
pub lockstep : {S T : Type 0} (r : ℕ → S) (x : ℕ → T) (R : ℕ → S → T → Type 0) → R 0 (r 0) (x 0) →
    ((k : ℕ) → R k (r k) (x k) → R (suc k) (r (suc k)) (x (suc k))) → (n : ℕ) → R n (r n) (x n)
lockstep r x R begin each zero = begin
lockstep r x R begin each (suc n) = each n (lockstep r x R begin each n)

module _ {S : Type 0} (r : ℕ → S) where
  -- a reflexive and transitive relation that holds over each step holds over any number of steps
  pub later : (Q : S → S → Type 0) → ((s : S) → Q s s) → ((s t u : S) → Q s t → Q t u → Q s u) →
      ((k : ℕ) → Q (r k) (r (suc k))) → (n m : ℕ) → n ≤ m → Q (r n) (r m)
  later Q same on each n zero le = (let e : n ≡ 0 = omega arith in subst (λ k. Q (r n) (r k)) e (same (r n)))
  later Q same on each n (suc m) le =
      ⊎_elim
      (λ (e : n ≡ suc m). subst (λ k. Q (r n) (r k)) e (same (r n)))
      (λ (ne : n ≡ suc m → ⊥). on (r n) (r m) (r (suc m)) (later Q same on each n m (omega arith)) (each m))
      (cases_eq n (suc m))

  -- a run that has ended is unchanged by each step
  module _ (Ended : S → Type 0) (each : (k : ℕ) → Ended (r k) → r (suc k) ≡ r k) where
    -- so it stays as it is from then on
    pub stays : (n m : ℕ) → n ≤ m → Ended (r n) → r m ≡ r n
    stays = later (λ s t. Ended s → t ≡ s) (λ s e. refl) (λ s t u f g e. g (subst Ended (sym (f e)) e) ∙ f e) each

    -- it ends in one state only
    pub ends_once : (n m : ℕ) → Ended (r n) → Ended (r m) → r n ≡ r m
    ends_once n m e f =
        ⊎_elim (λ (lt : n < m). sym (stays n m (omega arith) e)) (λ (le : m ≤ n). stays m n le f) (cases_lt n m)

    -- a state in which it has not ended comes before one in which it has
    pub goes_on : (n m : ℕ) → (Ended (r n) → ⊥) → Ended (r m) → n < m
    goes_on n m on e =
        ⊎_elim (λ (lt : n < m). lt) (λ (le : m ≤ n). absurd (on (subst Ended (sym (stays m n le e)) e))) (cases_lt n m)
