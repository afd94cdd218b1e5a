-- The verdicts of struck counters.
use Rattle.std.proofs.Common.{◌≡◌, ◌≢◌, ⊎_elim, ℕ, suc, ◌<◌, ◌≤◌, Bool, true, false, ◌&&◌, nat_lt}
use Rattle.std.proofs.Common.{if◌then◌else◌, List, Option, Some, None, refl, sym, ap, ◌∙◌, subst}
use Rattle.std.proofs.Common.{arith, add-one}
use Rattle.std.proofs.lemmas.Bool.{cases_lt, ltb-true, lt-ltb}
use Rattle.std.proofs.Common.{length, ◌^◌}
use Rattle.ft_isa.specs.Words.{IsWord}
use Rattle.ft_isa.specs.declared.instr.Instr.{Instr}
use Rattle.ft_isa.specs.declared.plan.Site.{Site}
use Rattle.ft_isa.specs.declared.plan.Strike.{Strike}
use Rattle.ft_isa.specs.declared.plan.Wild.{Wild}
use Rattle.ft_types.specs.declared.object.Object.{Object}
use Rattle.ft_semantics.specs.Agrees.{IsPrefix}
use Rattle.ft_semantics.specs.declared.status.Status.TheVariants.{Running, Detected}
use Rattle.ft_semantics.specs.State.{State}
use Rattle.ft_semantics.specs.Step.{next}
use Rattle.ft_semantics.specs.Strike.{is_there}
use Rattle.ft_semantics.specs.Run.{Ran, run, state_after, wild_after, outputs_after, status_after}
use Rattle.ft_semantics.proofs.Runs.{HasStopped, run_stays, outputs_grow}
use Rattle.ft_semantics.proofs.Struck.{spared}
use Rattle.ft_campaign.specs.declared.verdict.Verdict.TheVariants as verdicts
use Rattle.ft_campaign.specs.Verdicts.{IsVerdict}
use Rattle.ft_access.specs.Lasting.{fetched_at, at_once, strike_at, IsSameAfter}
use Rattle.ft_access.specs.Counters.{is_counter, counter_of, adds_one}
use Rattle.ft_access.proofs.Changes.{Change, detects, halts, counts}
use Rattle.ft_access.proofs.Doings.{struck_is}
use Rattle.ft_access.proofs.Waiting.{onwards, ready_there, same_on, same_upto}
use Rattle.ft_access.proofs.Waiting.{same_run}
use Rattle.ft_access.proofs.Counters.{Turns, stops, ends, turns, goes, doing_turns}
use Rattle.ft_access.proofs.Counters.{are_equal, fetched_word}
use Rattle.ft_access.proofs.Striking.{strikes}
use Rattle.ft_access.proofs.StruckCounters.{counter_there, next_other, is_detected, last_status, last_outputs}
use Rattle.ft_access.proofs.StruckCounters.{DoBoth, do_both, stopped_both, transfers_both}
use Rattle.ft_access.proofs.StruckCounters.{runs_on, cleared, counter_is, same_at, always, counter_word, kept_word}
use Rattle.ft_classes.specs.CounterVerdicts.{verdict_by, counter_verdict}
use Rattle.ft_classes.proofs.Classes.{verdict_follows}

-- another word is detected by a fetch at once
module _ (o : Object) (w : List Wild) (k : ℕ) (x : Site) (v : ℕ) (cx : is_counter x ≡ true)
    (go : status_after o None w k ≡ Running) (n : ℕ) (lt : k < n) (nothing : fetched_at o w k ≡ None)
    (other : v ≢ counter_of x (state_after o None w k)) (clean : status_after o None w n ≢ Detected) where
  abbrev strike : Strike
  strike = strike_at k x v

  there : is_there (state_after o None w k) x ≡ true
  there = counter_there x (state_after o None w k) cx go

  pub detected_at_once : IsVerdict o strike w n (verdicts.Detected k)
  detected_at_once = (
    strikes o w n k x v lt there,
    (λ same. clean (sym same.1 ∙ last_status o w k x v cx go n lt nothing other)),
    (
      last_status o w k x v cx go n lt nothing other,
      subst (λ os. IsPrefix os (outputs_after o None w n)) (sym (last_outputs o w k x v cx go n lt nothing other))
          (outputs_grow o None w k n (omega arith)),
    ),
    (
      (same_upto o w k x v k x (at_once there) k (omega arith)).status ∙ go,
      subst (λ m. status_after o (Some strike) w m ≡ Detected) (sym (add-one k))
          (is_detected o w k x v cx go n lt nothing other),
    ),
  )

-- if one is added to both counters
module _ (o : Object) (w : List Wild) (k : ℕ) (x : Site) (v : ℕ) (cx : is_counter x ≡ true)
    (go : status_after o None w k ≡ Running) (c : Change) (h : DoBoth o w k x v c) (f : counts c ≡ true) where
  abbrev now : State
  now = state_after o None w k

  -- the next fetch detects it
  detected_next : (n : ℕ) → suc k < n → IsWord v → IsWord (counter_of x now) → v ≢ counter_of x now →
      status_after o None w n ≢ Detected → IsVerdict o (strike_at k x v) w n (verdicts.Detected (suc k))
  detected_next n lt a b other clean =
      let on = runs_on o w k x v cx go c h f in
      verdict_follows o (strike_at (suc k) x (next v)) (strike_at k x v) w n (
      strikes o w n k x v (omega arith) (counter_there x now cx go)
      ∙ sym (strikes o w n (suc k) x (next v) lt (counter_there x (state_after o None w (suc k)) cx on))
      ) (always o w k x v cx go c h f) (verdicts.Detected (suc k))
      (detected_at_once o w (suc k) x (next v) cx on n lt (cleared o w k x v cx go c h f)
      (λ e. next_other v (counter_of x now) a b other (e ∙ counter_is o w k x v cx go c h f)) clean)

-- A strike of a counter has the verdict that the run without a fault tells.

-- if no step follows before the end, this is the last
not_past : (k n : ℕ) → k < n → nat_lt (suc k) n ≡ false → n ≡ suc k
not_past k n lt h =
    ⊎_elim
    (λ (more : suc k < n). let t = lt-ltb (suc k) n more in let e : true ≡ false = sym t ∙ h in cc)
    (λ (le : n ≤ suc k). omega arith)
    (cases_lt (suc k) n)

-- runs with the same outputs and status are masked
masked : (o : Object) (w : List Wild) (k : ℕ) (x : Site) (v n : ℕ) → is_counter x ≡ true → status_after o None w k
    ≡ Running → k < n → IsSameAfter o (Some (strike_at k x v)) None w n →
    IsVerdict o (strike_at k x v) w n verdicts.Masked
masked o w k x v n cx go lt h = (
  strikes o w n k x v lt (counter_there x (state_after o None w k) cx go),
  (h.outputs, h.status),
)

module _ (o : Object) (w : List Wild) (n k : ℕ) (x : Site) (v : ℕ) (cx : is_counter x ≡ true) (lt : k < n)
    (go : status_after o None w k ≡ Running) (clean : status_after o None w n ≢ Detected) (a : IsWord v)
    (small : length o.instrs < 2 ^ 64) (other : v ≢ counter_of x (state_after o None w k)) where
  detected_no : DoBoth o w k x v detects → ⊥
  detected_no h = clean (ap (λ (r : Ran). r.state.status) (run_stays o None w (suc k) n (omega arith)
      (subst HasStopped (sym (ap (λ (r : Ran). r.state.status) h.free)) tt)) ∙ ap (λ (r : Ran). r.state.status) h.free)

  by_past : IsWord (counter_of x (state_after o None w k)) → (p : Bool) → nat_lt (suc k) n ≡ p → (c : Change) →
      DoBoth o w k x v c → counts c ≡ true →
      IsVerdict o (strike_at k x v) w n (if p then verdicts.Detected (suc k) else verdicts.Masked)
  by_past b true e c h f = detected_next o w k x v cx go c h f n (ltb-true (suc k) n e) a b other clean
  by_past b false e c h f = masked o w k x v n cx go lt (subst (IsSameAfter o (Some (strike_at k x v)) None w)
      (sym (not_past k n lt e)) (same_at o w k x v cx go c h f))

  -- the verdict, by whether the instruction adds one to the counters
  abbrev Told : Bool → Type 0
  Told t = IsVerdict o (strike_at k x v) w n (if t && nat_lt (suc k) n then verdicts.Detected (suc k)
      else verdicts.Masked)

  by_turn : IsWord (counter_of x (state_after o None w k)) → (d : ℕ) (t : Bool) (c : Change) → Turns d t c →
      DoBoth o w k x v c → Told t
  by_turn b d t _ stops h = absurd (detected_no h)
  by_turn b d t _ (ends e) h = subst Told (sym e) (masked o w k x v n cx go lt
      (stopped_both o w k x v cx go halts h tt refl n lt))
  by_turn b d t _ (turns {a = a} e f) h = subst Told (sym e) (masked o w k x v n cx go lt
      (transfers_both o w k x v cx go a h n lt))
  by_turn b d t c (goes e f) h = subst Told (sym e) (by_past b (nat_lt (suc k) n) refl c h f)

  by_fetched : (f : Option Instr) → fetched_at o w k ≡ f → IsVerdict o (strike_at k x v) w n
      (verdict_by f (state_after o None w k) n k)
  by_fetched None e = detected_at_once o w k x v cx go n lt e other clean
  by_fetched (Some i) e = by_turn (counter_word x (state_after o None w k) (are_equal o w k)
      (fetched_word o w k i small e)) (state_after o None w k).d (adds_one i (state_after o None w k)) _
      (doing_turns i (state_after o None w k) (wild_after o None w k)) (do_both o w k x v cx go i e)

  pub counter_told : IsVerdict o (strike_at k x v) w n (counter_verdict o w n k)
  counter_told = by_fetched (fetched_at o w k) refl

-- A STRIKE THAT WRITES THE WORD THAT IS THERE

-- a strike that writes the word that is there is masked
pub kept_masked : (o : Object) (w : List Wild) (n k : ℕ) (x : Site) → is_counter x ≡ true → k < n →
    status_after o None w k ≡ Running →
    IsVerdict o (strike_at k x (counter_of x (state_after o None w k))) w n verdicts.Masked
unfolding run
kept_masked o w n k x cx lt go =
    let s = state_after o None w k in
    let v = counter_of x s in
    masked o w k x v n cx go lt (same_run o _ None w n (same_on o (Some (strike_at k x v)) None w k (λ m t later.
    spared (strike_at k x v) m (λ e. omega arith) t) (ap (onwards o) (
    ready_there o w k x v
    ∙ ap (λ t. record (run o None w k) { state = t }) (struck_is s x v (counter_there x s cx go) ∙ kept_word x s cx)))
    n lt))
