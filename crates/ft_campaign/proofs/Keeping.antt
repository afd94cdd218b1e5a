-- What is kept of the run without a fault.
use Rattle.std.proofs.Common.{◌≡◌, ℕ, ◌+◌, ◌*◌, ◌/◌, ◌<◌, ◌≤◌, List, [], ◌∷◌, ◌++◌, length, Some, None, slice_get}
use Rattle.std.proofs.Common.{true, false, refl, ap, sym, subst, ◌∙◌, ⊎_elim, arith}
use denote.Enum.Bare.{sameb}
use Rattle.std.proofs.lemmas.List.{length-append}
use Rattle.std.proofs.lemmas.Option.{slice_get_within}
use Rattle.ft_isa.specs.declared.plan.Wild.{Wild}
use Rattle.ft_isa.proofs.Lists.{there_pushed}
use Rattle.ft_types.specs.declared.object.Object.{Object}
use Rattle.ft_semantics.specs.declared.status.Status.TheVariants.{Running, Done, Detected}
use Rattle.ft_semantics.specs.State.{State}
use Rattle.ft_semantics.specs.Run.{Ran, run, state_after, wild_after, outputs_after, status_after}
use Rattle.ft_semantics.proofs.Runs.{HasStopped, run_stays}
use Rattle.ft_machine.specs.Spans.{span}
use Rattle.ft_machine.specs.Goes.{goes_on, status_at}
use Rattle.ft_machine.specs.declared.stepped.Pause.{Pause}
use Rattle.ft_machine.specs.declared.stepped.Pause.TheVariants as pause
use Rattle.ft_machine.specs.contracts.stepped.Pause as the_pause
use Rattle.ft_machine.proofs.Spanned.{joined}
use Rattle.ft_campaign.specs.declared.clean.KeptRun.{KeptRun}
use Rattle.ft_campaign.specs.declared.clean.Snapshot.{Snapshot}
use Rattle.ft_campaign.specs.Snapshots.{IsSnapshot, IsClean, Kept, AreSnapshots, AreLengths, IsDue}
use Rattle.ft_campaign.proofs.Following.{not_running}
use Rattle.ft_campaign.proofs.Meetings.{run_free}
use Rattle.ft_campaign.proofs.Queues.{running_before}

pub snapshots_none : (o : Object) (w : List Wild) → AreSnapshots o w 0 []
snapshots_none o w = record { row = omega arith; snapshots_are = λ j s e. absurd (cc) }

-- the first snapshot is due before step 0
pub due_first : (n : ℕ) → IsDue n 0 0
due_first n = record { within = omega arith; covered = omega arith; later = λ j a b. absurd (omega (arith, b)) }

pub snapshots_more : (o : Object) (w : List Wild) (k : ℕ) (xs : List Snapshot) (s : Snapshot) → AreSnapshots o w k xs →
    length xs ≤ k / 1024 → IsSnapshot o w k s → AreSnapshots o w (k + 1) (xs ++ s ∷ [])
snapshots_more o w k xs s h le is =
    let row = h.row in
    let long = length-append xs (s ∷ []) in
    let here : k ≡ 1024 * length xs = omega (arith, row, le) in
    record {
      row = omega (arith, long, here);
      snapshots_are = λ j t e.
          ⊎_elim (λ (old : slice_get xs j ≡ Some t). h.snapshots_are j t old)
          (λ (new : (j ≡ length xs) × (s ≡ t)). subst (λ i. IsSnapshot o w (1024 * i) t) (sym new.0)
          (subst (λ i. IsSnapshot o w i t) here (subst (λ u. IsSnapshot o w k u) new.1 is)))
          (there_pushed xs s j t e);
    }

kept_by : (o : Object) (w : List Wild) (k : ℕ) (ls : List ℕ) (xs : List Snapshot) → ((i : ℕ) → i < k →
    status_after o None w i ≡ Running) → AreLengths o w k ls → AreSnapshots o w k xs → Kept o w k ls xs
kept_by o w k ls xs running a b =
    let long = a.long in
    record {
      long = long;
      queues = λ i c e.
          let there = slice_get_within ls i c e in
          let on = running i (omega (arith, long, there)) in (on, a.queues i c e on);
      row = b.row;
      snapshots_are = b.snapshots_are;
    }

-- what is kept of a run that stopped at step k
pub clean_stopped : (o : Object) (w : List Wild) (k n : ℕ) (c : KeptRun) → k < n →
    HasStopped (status_after o None w (k + 1)) → c.outputs.items ≡ outputs_after o None w (k + 1) → c.status
    ≡ status_after o None w (k + 1) → c.last ≡ k
    → status_after o None w k ≡ Running → AreLengths o w (k + 1) c.lengths.items →
    AreSnapshots o w (k + 1) c.snapshots.items → IsClean o w n c
clean_stopped o w k n c lt stop outputs status last running a b =
    let same = run_stays o None w (k + 1) n (omega (arith, lt)) stop in
    record {
      outputs = outputs ∙ sym (ap (λ (x : Ran). x.outputs) same);
      status = status ∙ sym (ap (λ (x : Ran). x.state.status) same);
      running = λ _. ap (status_after o None w) last ∙ running;
      detected = λ d. ap (λ j. status_after o None w (j + 1)) last ∙ sym status ∙ d;
      upto = k + 1;
      kept = kept_by o w (k + 1) c.lengths.items c.snapshots.items
          (λ i below. running_before o w k i below running) a b;
      within = omega (arith, lt);
      past = λ i le below e. not_running (status_after o None w (k + 1)) stop
          (sym (ap (λ (x : Ran). x.state.status) (run_stays o None w (k + 1) i le stop)) ∙ e);
    }

-- what is kept of a run that is still running after n steps
pub clean_whole : (o : Object) (w : List Wild) (n : ℕ) (c : KeptRun) → status_after o None w n ≡ Running →
    c.outputs.items ≡ outputs_after o None w n → c.status ≡ Running → AreLengths o w n c.lengths.items →
    AreSnapshots o w n c.snapshots.items → IsClean o w n c
clean_whole o w n c running outputs is a b = record {
  outputs = outputs;
  status = is ∙ sym running;
  running = λ d. absurd (let e : Running ≡ Detected = sym is ∙ d in cc);
  detected = λ d. absurd (let e : Running ≡ Detected = sym is ∙ d in cc);
  upto = n;
  kept = kept_by o w n c.lengths.items c.snapshots.items
      (λ i below. running_before o w n i (omega (arith, below)) running) a b;
  within = omega arith;
  past = λ i le below e. absurd (omega (arith, le, below));
}

-- the run after m steps of a machine that is in the run's state
pub run_span : (o : Object) (w : List Wild) (k m : ℕ) (s : State) (v : List Wild) → s ≡ state_after o None w k → v
    ≡ wild_after o None w k
    → run o None w (k + m) ≡ joined (outputs_after o None w k) (span o m s v)
run_span o w k m s v es ev =
    run_free o w k m
    ∙ ap (λ x. joined (outputs_after o None w k) (span o m x (wild_after o None w k))) (sym es)
    ∙ ap (λ x. joined (outputs_after o None w k) (span o m s x)) (sym ev)

-- the snapshots after more steps, as long as none is due
pub snapshots_on : (o : Object) (w : List Wild) (k m : ℕ) (xs : List Snapshot) → AreSnapshots o w k xs →
    m ≤ 1024 * length xs → AreSnapshots o w m xs
snapshots_on o w k m xs h row = record { row = row; snapshots_are = h.snapshots_are }

-- an outlet that did not stop the run went on
pub goes_unrefused : (p : Pause) → sameb the_pause.the_type p pause.Refused ≡ false → goes_on p ≡ true
goes_unrefused pause.Running e = refl
goes_unrefused pause.Done e = refl
goes_unrefused pause.Detected e = refl
goes_unrefused pause.Refused e = absurd (let f : true ≡ false = e in cc)

-- if the outlet went on and the machine is still running, all steps were taken
pub pause_running : (p : Pause) → goes_on p ≡ true → status_at p ≡ Running → p ≡ pause.Running
pause_running pause.Running e running = refl
pause_running pause.Done e running = absurd (let f : Done ≡ Running = running in cc)
pause_running pause.Detected e running = absurd (let f : Detected ≡ Running = running in cc)
pause_running pause.Refused e running = absurd (let f : false ≡ true = e in cc)
