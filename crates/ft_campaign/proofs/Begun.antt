-- A struck run from its snapshot to its strike.
use Rattle.std.proofs.Common.{◌≡◌, ℕ, ◌+◌, ◌-◌, ◌*◌, ◌/◌, ◌%◌, ◌<◌, ◌≤◌, ◌&&◌, List, length, take, Some, None, true}
use Rattle.std.proofs.Common.{false, slice_get, inl, inr, refl, ap, sym, ◌∙◌, ⊎_elim, arith}
use Rattle.std.specs.Prelude.{nat_lt}
use Rattle.std.proofs.Math.Seq.{take-append_seam}
use Rattle.std.proofs.lemmas.List.{length-append}
use Rattle.std.proofs.lemmas.Bool.{lt-ltb, le-ltb, ltb-true, cases_lt, and_right, and_parts}
use Rattle.std.proofs.lemmas.Option.{slice_get_cases, slice_get_within}
use Rattle.ft_isa.specs.declared.plan.Wild.{Wild}
use Rattle.ft_isa.specs.declared.plan.Strike.{Strike}
use Rattle.ft_types.specs.declared.object.Object.{Object}
use Rattle.ft_semantics.specs.declared.status.Status.TheVariants.{Running}
use Rattle.ft_semantics.specs.State.{State}
use Rattle.ft_semantics.specs.Strike.{struck_state, is_running, is_site, is_there}
use Rattle.ft_semantics.specs.Run.{Ran, run, state_after, wild_after, outputs_after, status_after, is_struck}
use Rattle.ft_machine.specs.Spans.{span}
use Rattle.ft_semantics.proofs.Runs.{stop_of, is_not_running, outputs_grow}
use Rattle.ft_semantics.proofs.Struck.{struck_there}
use Rattle.ft_tolerance.proofs.Masking.{before}
use Rattle.ft_tolerance.proofs.Statuses.{running_is}
use Rattle.ft_machine.proofs.Spanned.{joined}
use Rattle.ft_campaign.specs.declared.clean.KeptRun.{KeptRun}
use Rattle.ft_campaign.specs.declared.clean.Snapshot.{Snapshot}
use Rattle.ft_campaign.specs.Snapshots.{IsSnapshot, IsClean, IsRacing}
use Rattle.ft_campaign.proofs.Meetings.{run_free}
use Rattle.ft_campaign.proofs.Racing.{count_fits}

pub struck_early : (o : Object) (x : Strike) (w : List Wild) (n : ℕ) → is_struck o (Some x) w n ≡ true → x.step < n
struck_early o x w n h = ltb-true x.step n (and_parts (nat_lt x.step n)
    (is_there (state_after o (Some x) w x.step) x.site) h).0

same_at_strike : (o : Object) (x : Strike) (w : List Wild) → run o (Some x) w x.step ≡ run o None w x.step
same_at_strike o x w = sym (before o x w x.step (omega arith))

pub struck_running : (o : Object) (x : Strike) (w : List Wild) (n : ℕ) → is_struck o (Some x) w n ≡ true →
    status_after o (Some x) w x.step ≡ Running
struck_running o x w n h =
    running_is (status_after o (Some x) w x.step)
    (and_parts (is_running (status_after o (Some x) w x.step))
    (is_site x.site (length (state_after o (Some x) w x.step).queue))
    (and_parts (nat_lt x.step n) (is_there (state_after o (Some x) w x.step) x.site) h).1).0

-- the queue length kept for a step shows whether a fault strikes something
pub struck_by_byte : (o : Object) (x : Strike) (w : List Wild) (n : ℕ) (c : KeptRun) (b : ℕ) → IsClean o w n c →
    slice_get c.lengths.items x.step ≡ Some b → is_site x.site b ≡ is_struck o (Some x) w n
struck_by_byte o x w n c b h e =
    let q = h.kept.queues x.step b e in
    let low : x.step < n = (let lt = in_range c.lengths.items x.step b e in let long = h.kept.long in
    let le = h.within in omega (arith, lt, long, le)) in
    let at : is_there (state_after o (Some x) w x.step) x.site ≡ is_there (state_after o None w x.step) x.site =
    ap (λ (r : Ran). is_there r.state x.site) (same_at_strike o x w) in
    let on : is_running (status_after o None w x.step) ≡ true = ap is_running q.0 in
    ap (is_site x.site) q.1
    ∙ ap (λ t. t && is_site x.site (length (state_after o None w x.step).queue)) (sym on)
    ∙ sym at ∙ ap (λ t. t && is_there (state_after o (Some x) w x.step) x.site) (sym (lt-ltb x.step n low))
  where
    in_range : (xs : List ℕ) (i b : ℕ) → slice_get xs i ≡ Some b → i < length xs
    in_range xs i b e = slice_get_within xs i b e

pub struck_by_none : (o : Object) (x : Strike) (w : List Wild) (n : ℕ) (c : KeptRun) → IsClean o w n c →
    slice_get c.lengths.items x.step ≡ None → false ≡ is_struck o (Some x) w n
struck_by_none o x w n c h e =
    ⊎_elim
    (λ (low : x.step < n).
    let far : h.upto ≤ x.step = (let le = past_end c.lengths.items x.step e in let long = h.kept.long in
    omega (arith, le, long)) in
    let off : is_running (status_after o None w x.step)
    ≡ false = is_not_running _ (stop_of (status_after o None w x.step) (h.past x.step far low)) in
    let at : is_there (state_after o (Some x) w x.step) x.site ≡ is_there (state_after o None w x.step) x.site =
    ap (λ (r : Ran). is_there r.state x.site) (same_at_strike o x w) in
    let gone : is_there (state_after o (Some x) w x.step) x.site ≡ false = at
    ∙ ap (λ t. t && is_site x.site (length (state_after o None w x.step).queue)) off in
    sym (and_right _ _ gone))
    (λ (high : n ≤ x.step). ap (λ t. t && is_there (state_after o (Some x) w x.step) x.site)
    (sym (le-ltb x.step n high)))
    (cases_lt x.step n)
  where
    past_end : (xs : List ℕ) (i : ℕ) → slice_get xs i ≡ None → length xs ≤ i
    past_end xs i e = elim (slice_get_cases xs i).1 [
      | inl p ↦ (let bad : Some p.0 ≡ None = sym p.2 ∙ e in absurd (cc))
      | inr p ↦ p.0
    ]

-- if a fault strikes something, the snapshot before it exists
pub snapshot_there : (o : Object) (x : Strike) (w : List Wild) (n : ℕ) (c : KeptRun) → IsClean o w n c →
    is_struck o (Some x) w n ≡ true → x.step / 1024 < length c.snapshots.items
snapshot_there o x w n c h struck =
    let low = struck_early o x w n struck in
    let running : status_after o None w x.step ≡ Running = sym (ap (λ (r : Ran). r.state.status) (same_at_strike o x w))
    ∙ struck_running o x w n struck in
    let early : x.step < h.upto = ⊎_elim (λ (lt : x.step < h.upto). lt) (λ (le : h.upto ≤ x.step).
    absurd (h.past x.step le low running)) (cases_lt x.step h.upto) in
    let row = h.kept.row in
    omega (arith, early, row)

whole_step : (k : ℕ) → 1024 * (k / 1024) + k % 1024 ≡ k
whole_step k = omega arith

-- a struck run from the snapshot up to the strike
module _ (o : Object) (x : Strike) (w : List Wild) (n : ℕ) (k : Snapshot)
    (h : IsSnapshot o w (1024 * (x.step / 1024)) k) (struck : is_struck o (Some x) w n ≡ true) where
  abbrev j : ℕ
  j = x.step % 1024

  reached : run o None w x.step ≡ joined (outputs_after o None w (1024 * (x.step / 1024)))
      (span o (x.step % 1024) k.machine k.wild)
  reached =
      ap (run o None w) (sym (whole_step x.step)) ∙ run_free o w (1024 * (x.step / 1024)) (x.step % 1024)
      ∙ ap (λ q. joined (outputs_after o None w (1024 * (x.step / 1024)))
      (span o (x.step % 1024) q (wild_after o None w (1024 * (x.step / 1024))))) (sym h.state)
      ∙ ap (λ v. joined (outputs_after o None w (1024 * (x.step / 1024))) (span o (x.step % 1024) k.machine v))
      (sym h.wild)

  pub running_at_strike : (span o (x.step % 1024) k.machine k.wild).state.status ≡ Running
  running_at_strike = sym (ap (λ (r : Ran). r.state.status) reached)
      ∙ sym (ap (λ (r : Ran). r.state.status) (same_at_strike o x w)) ∙ struck_running o x w n struck

  pub count_at : k.count + length (span o (x.step % 1024) k.machine k.wild).outputs
      ≡ length (outputs_after o None w x.step)
  count_at =
      ap (λ i. i + length (span o (x.step % 1024) k.machine k.wild).outputs) h.count
      ∙ sym (length-append (outputs_after o None w (1024 * (x.step / 1024)))
      (span o (x.step % 1024) k.machine k.wild).outputs)
      ∙ sym (ap (λ (r : Ran). length r.outputs) reached)

  pub racing_begun : (q : State) (l : List Wild) (at : ℕ) → q
      ≡ struck_state (span o (x.step % 1024) k.machine k.wild).state x.site x.value → l
      ≡ (span o (x.step % 1024) k.machine k.wild).wild
      → at ≡ k.count + length (span o (x.step % 1024) k.machine k.wild).outputs → IsRacing o x w n x.step q l at
  racing_begun q l at state wild at_is =
      let same = same_at_strike o x w in
      let low = struck_early o x w n struck in
      record {
        state =
            state ∙ ap (λ (r : Ran). struck_state r.state x.site x.value) (sym reached)
            ∙ ap (λ (r : Ran). struck_state r.state x.site x.value) (sym same)
            ∙ sym (struck_there x (state_after o (Some x) w x.step));
        wild = wild ∙ sym (ap (λ (r : Ran). r.wild) reached) ∙ sym (ap (λ (r : Ran). r.wild) same);
        running = struck_running o x w n struck;
        begins = record {
          front = ap (λ (r : Ran). r.outputs) same ∙ begins_so
              ∙ ap (λ i. take i (outputs_after o None w n)) (sym (at_is ∙ count_at));
          few = let fits = count_fits o w x.step n (omega (arith, low)) in omega (arith, fits, at_is, count_at);
        };
        from = omega arith;
        within = omega (arith, low);
        unmet = λ e m lt. m.above;
      }
    where
      begins_so : outputs_after o None w x.step ≡ take (length (outputs_after o None w x.step))
          (outputs_after o None w n)
      begins_so =
          let low = struck_early o x w n struck in
          let grown = outputs_grow o None w x.step n (omega (arith, low)) in
          sym (take-append_seam (outputs_after o None w x.step) grown.0)
          ∙ ap (take (length (outputs_after o None w x.step))) grown.1
