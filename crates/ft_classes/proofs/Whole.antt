-- The whole space of faults.
use Rattle.std.proofs.Common.{◌≡◌, ◌≢◌, ⊎_elim, ◌⊎◌, inl, inr, ℕ, suc, ◌<◌, Bool, true, false, ◌&&◌, nat_lt}
use Rattle.std.proofs.Common.{if◌then◌else◌, List, Option}
use Rattle.std.proofs.Common.{Some, None, refl, sym, subst}
use Rattle.std.proofs.lemmas.Bool.{cases_eq}
use Rattle.std.proofs.Common.{length, ◌^◌}
use Rattle.ft_isa.specs.Words.{IsWord}
use Rattle.ft_isa.specs.declared.instr.Instr.{Instr}
use Rattle.ft_isa.specs.declared.plan.Site.{Site}
use Rattle.ft_isa.specs.declared.plan.Strike.{Strike}
use Rattle.ft_isa.specs.declared.plan.Wild.{Wild}
use Rattle.ft_types.specs.declared.object.Object.{Object}
use Rattle.ft_semantics.specs.declared.status.Status.TheVariants.{Detected}
use Rattle.ft_semantics.specs.State.{State}
use Rattle.ft_semantics.specs.Strike.{is_there}
use Rattle.ft_semantics.specs.Run.{state_after, status_after}
use Rattle.ft_campaign.specs.declared.verdict.Verdict.TheVariants as verdicts
use Rattle.ft_campaign.specs.Verdicts.{IsVerdict}
use Rattle.ft_campaign.proofs.Judged.{one_verdict}
use Rattle.ft_access.specs.Access.{reads_site}
use Rattle.ft_access.specs.Lasting.{fetched_at, strike_at}
use Rattle.ft_access.specs.Counters.{is_counter, counter_of, adds_one}
use Rattle.ft_access.proofs.Steps.{there_runs}
use Rattle.ft_classes.specs.CounterVerdicts.{verdict_by}
use Rattle.ft_classes.proofs.Classes.{none_corrupt}
use Rattle.ft_classes.proofs.CounterVerdicts.{counter_told, kept_masked}

-- the verdict of a counter is never corrupt
not_corrupt : (f : Option Instr) (s : State) (n k : ℕ) → verdict_by f s n k ≡ verdicts.Corrupt → ⊥
not_corrupt None s n k e = cc
not_corrupt (Some i) s n k e = by_test (adds_one i s && nat_lt (suc k) n) e
  where
    by_test : (b : Bool) → (if b then verdicts.Detected (suc k) else verdicts.Masked) ≡ verdicts.Corrupt → ⊥
    by_test true h = cc
    by_test false h = cc

-- a test holds or fails
true_or_false : (b : Bool) → (b ≡ true) ⊎ (b ≡ false)
true_or_false true = inl refl
true_or_false false = inr refl

module _ (o : Object) (w : List Wild) (n : ℕ) (clean : status_after o None w n ≢ Detected)
    (small : length o.instrs < 2 ^ 64) where
  -- no strike of a counter is corrupt
  pub counter_never : (k : ℕ) (x : Site) (v : ℕ) → is_counter x ≡ true → k < n → is_there (state_after o None w k) x
      ≡ true → IsWord v → ¬ (IsVerdict o (strike_at k x v) w n verdicts.Corrupt)
  counter_never k x v cx lt there word bad =
      let s = state_after o None w k in
      let go = there_runs x s there in
      ⊎_elim
      (λ (e : v ≡ counter_of x s).
      let same : verdicts.Masked ≡ verdicts.Corrupt = one_verdict o (strike_at k x v) w n _ _
      (subst (λ u. IsVerdict o (strike_at k x u) w n verdicts.Masked) (sym e) (kept_masked o w n k x cx lt go)) bad in
      cc)
      (λ (ne : v ≡ counter_of x s → ⊥).
      not_corrupt (fetched_at o w k) s n k (one_verdict o (strike_at k x v) w n _ _
      (counter_told o w n k x v cx lt go clean word small ne) bad))
      (cases_eq v (counter_of x s))

  -- so only faults of other sites have to be judged
  pub others_enough : (x : Strike) → IsWord x.value → ((l : ℕ) (y : Site) → l < n → is_there (state_after o None w l) y
      ≡ true → is_counter y ≡ false → reads_site (fetched_at o w l) y ≡ true →
      ¬ (IsVerdict o (strike_at l y x.value) w n verdicts.Corrupt)) → ¬ (IsVerdict o x w n verdicts.Corrupt)
  others_enough x word bad = none_corrupt o w n x (λ l y lt there reads.
      ⊎_elim
      (λ (cx : is_counter y ≡ true). counter_never l y x.value cx lt there word)
      (λ (other : is_counter y ≡ false). bad l y lt there other reads)
      (true_or_false (is_counter y)))
