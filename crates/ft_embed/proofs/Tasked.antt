-- Runs that continue across calls.
use Rattle.std.proofs.Common.{◌≡◌, ℕ, zero, suc, ◌+◌, ◌<◌, ◌≤◌, false, List, [], length, Option, Some, None, is_some}
use Rattle.std.proofs.Common.{if◌then◌else◌, refl, ap, sym, subst, ◌∙◌, arith, add-zero}
use Rattle.std.specs.Prelude.{◌++◌, IfSome}
use Rattle.std.proofs.lemmas.List.{length-append}
use Rattle.ft_isa.specs.declared.plan.Site.{Site}
use Rattle.ft_isa.specs.declared.plan.Strike.{Strike}
use Rattle.ft_isa.specs.declared.plan.Wild.{Wild}
use Rattle.ft_types.specs.declared.object.Object.{Object}
use Rattle.ft_types.specs.Spellable.{IsSpellable}
use Rattle.ft_typing.specs.Accepted.{IsAccepted}
use Rattle.ft_semantics.specs.declared.status.Status.TheVariants.{Running}
use Rattle.ft_semantics.specs.State.{State, start, HasCells}
use Rattle.ft_semantics.specs.Strike.{struck_state, struck_before}
use Rattle.ft_semantics.specs.Run.{Ran, run, run-zero, state_after, status_after}
use Rattle.ft_machine.specs.Spans.{span, span-zero, Spares}
use Rattle.ft_semantics.proofs.Struck.{struck_there, spared}
use Rattle.ft_machine.proofs.Spanned.{run_second, outputs_second}
use Rattle.ft_machine.proofs.Runs.{run_has_cells}
use Rattle.ft_tolerance.proofs.Masking.{tolerant, before}
use Rattle.ft_tolerance.proofs.Whole.{never_detected}
use Rattle.ft_embed.specs.declared.filling.CellOutput.{CellOutput}
use Rattle.ft_embed.specs.Outputs.{Ends, Fills}
use Rattle.ft_embed.specs.Tasks.{TaskRun, begun, IsBy, IsTask, IsLimit, GoesOn, GoesOnUntil, WentOn}
use Rattle.ft_flight.proofs.Flying.{not_at, grows}
use Rattle.ft_flight.proofs.NoAnswers.{no_words, none_after}
use Rattle.ft_embed.proofs.Taken.{status_on, struck_cells}

-- a strike at step k or earlier strikes no later step
spares_later : (strike : Option Strike) (k : ℕ) → IfSome strike (IsBy k) → (j : ℕ) → k < j → Spares strike j
spares_later None k by j above s = refl
spares_later (Some x) k by j above s = spared x j (not_at x k j by above) s

by_then : (strike : Option Strike) (k m : ℕ) → IfSome strike (IsBy k) → IfSome strike (IsBy (k + m))
by_then None k m by = tt
by_then (Some x) k m by = grows x k m by

-- the machine's start state is the state of an accepted object's run before its first step
pub begins : (o : Object) (s : State) → IsSpellable o → IsAccepted o → s ≡ start o → IsTask (begun o) s
begins o s spellable accepted first = record {
  spellable = spellable;
  accepted = accepted;
  by = tt;
  state = first ∙ ap (λ (r : Ran). r.state) (sym (run-zero o None no_words));
}

-- the machine has the cells of its object
pub task_cells : (r : TaskRun) (s : State) → IsTask r s → HasCells (length r.object.cells) s
task_cells r s h = struck_cells r.strike r.taken (length r.object.cells)
    (state_after r.object r.strike no_words r.taken) s h.state (run_has_cells r.object r.strike no_words r.taken)

module _ (r : TaskRun) (s1 s2 : State) (w1 w2 : List Wild) (m count : ℕ) (old new : List CellOutput) (h : IsTask r s1)
    (none : w1 ≡ []) (a : Fills r.object s1 w1 m s2 w2 0 count old new) where
  no_wild : w1 ≡ (run r.object r.strike no_words r.taken).wild
  no_wild = none ∙ sym (none_after r.object r.strike r.taken)

  later : (j : ℕ) → r.taken < j → Spares r.strike j
  later = spares_later r.strike r.taken h.by

  above : (n : ℕ) → r.taken < r.taken + suc n
  above n = omega arith

  state_on : (n : ℕ) → (span r.object n s1 w1).state
      ≡ struck_before r.strike (r.taken + n) (state_after r.object r.strike no_words (r.taken + n))
  state_on zero = ap (λ (x : Ran). x.state) (span-zero r.object s1 w1) ∙ h.state
      ∙ ap (λ n. struck_before r.strike n (state_after r.object r.strike no_words n)) (sym (add-zero r.taken))
  state_on (suc n) =
      let s = state_after r.object r.strike no_words r.taken in
      let on = run_second r.object r.strike no_words s s1 w1 r.taken (suc n) refl no_wild h.state later (omega arith) in
      ap (λ (x : Ran). x.state) (sym on)
      ∙ sym (later (r.taken + suc n) (above n) (state_after r.object r.strike no_words (r.taken + suc n)))

  -- the machine's state after these steps is the state of the run
  pub task_next : IsTask (record { object = r.object; strike = r.strike; taken = r.taken + m }) s2
  task_next = record {
    spellable = h.spellable;
    accepted = h.accepted;
    by = by_then r.strike r.taken m h.by;
    state = a.state_is ∙ state_on m;
  }

  outputs_are : (n : ℕ) → (run r.object r.strike no_words (r.taken + n)).outputs
      ≡ (run r.object r.strike no_words r.taken).outputs ++ (span r.object n s1 w1).outputs
  outputs_are = outputs_second r.object r.strike no_words (state_after r.object r.strike no_words r.taken) s1 w1 r.taken
      refl no_wild h.state later

  stands : (n : ℕ) → (span r.object n s1 w1).state.status ≡ status_after r.object r.strike no_words (r.taken + n)
  stands = status_on r.object r.strike no_words r.taken (state_after r.object r.strike no_words r.taken) s1 w1 refl
      no_wild h.state later

  goes : GoesOn r.object r.strike r.taken m count new
  goes = record {
    more = (span r.object m s1 w1).outputs;
    split = outputs_are m;
    stand = a.outputs;
  }

  -- before each of these steps, the run had not stopped and the array had room
  might : length new ≡ length old → GoesOnUntil r.object r.strike r.taken m (length new)
  might same j below =
      let x = a.before j below in
      let outs = ap length (outputs_are j) ∙ length-append (run r.object r.strike no_words r.taken).outputs
      (span r.object j s1 w1).outputs in
      let room = x.free in
      record { running = sym (stands j) ∙ x.running; free = omega (arith, outs, room, same) }

  pub task_went : (steps most status : ℕ) → IsLimit steps r.taken most → m ≤ most → (length new ≡ 0 → m ≡ 0) →
      count ≤ length new → length new ≡ length old → (s2.status ≡ Running → count < length new → m ≡ most)
      → ((n room : ℕ) → n ≤ room → m ≤ most → (s2.status ≡ Running → n < room → m ≡ most) →
      Ends status most m n room s2.status)
      → WentOn r (record { object = r.object; strike = r.strike; taken = r.taken + m }) status steps m count new
  task_went steps most status limit few no_room within same all ends = record {
    goes = refl;
    within = within;
    goes_on = goes;
    most = most;
    limit = limit;
    few = few;
    no_room = no_room;
    before = might same;
    ends =
        subst (Ends status most m count (length new)) (ap (λ (s : State). s.status) a.state_is ∙ stands m)
        (ends count (length new) within few all);
    agrees = tolerant r.object r.strike no_words (r.taken + m) h.spellable h.accepted;
    sound = never_detected r.object no_words h.spellable h.accepted;
  }

pub clean_now : (o : Object) (k : ℕ) (strike : Option Strike) (s : State) → strike ≡ None → s
    ≡ struck_before strike k (state_after o strike no_words k) → s ≡ state_after o None no_words k
clean_now o k None s is h = h
clean_now o k (Some x) s is h = absurd (cc)

-- a strike before the next step
abbrev pub next_strike : TaskRun → Site → ℕ → Strike
next_strike r site value = record { step = r.taken; site = site; value = value }

pub task_struck : (r : TaskRun) (s s' : State) (site : Site) (value : ℕ) → IsTask r s → r.strike ≡ None → s'
    ≡ struck_state s site value
    → IsTask (record { object = r.object; strike = Some (next_strike r site value); taken = r.taken }) s'
task_struck r s s' site value h first struck =
    let x : Strike = next_strike r site value in
    let now : r.taken ≤ r.taken = omega arith in
    record {
      spellable = h.spellable;
      accepted = h.accepted;
      by = now;
      state =
          struck
          ∙ ap (λ t. struck_state t site value) (clean_now r.object r.taken r.strike s first h.state
          ∙ ap (λ (q : Ran). q.state) (before r.object x no_words r.taken now))
          ∙ sym (struck_there x (state_after r.object (Some x) no_words r.taken));
    }

pub no_strike : (strike : Option Strike) → is_some strike ≡ false → strike ≡ None
no_strike None e = refl
no_strike (Some x) e = absurd (cc)
