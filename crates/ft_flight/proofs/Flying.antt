-- Attempts at a cycle, over the calls that make them.
use Rattle.std.proofs.Common.{◌≡◌, ℕ, zero, suc, ◌+◌, ◌-◌, ◌<◌, ◌≤◌, List, [], ◌∷◌, ◌++◌, length, max, take, map}
use Rattle.std.proofs.Common.{Option, Some, None, append_assoc, refl, ap, sym, subst, ◌∙◌, arith, add-zero, ⊎_elim}
use Rattle.std.specs.Prelude.{IfSome, drop}
use Rattle.std.proofs.lemmas.List.{append-nil, length-append}
use Rattle.std.proofs.lemmas.Bool.{cases_lt}
use Rattle.ft_isa.specs.declared.output.Output.{Output}
use Rattle.ft_isa.specs.declared.plan.Strike.{Strike}
use Rattle.ft_isa.specs.declared.plan.Wild.{Wild}
use Rattle.ft_types.specs.declared.object.Object.{Object}
use Rattle.ft_types.specs.Spellable.{IsSpellable}
use Rattle.ft_typing.specs.Accepted.{IsAccepted}
use Rattle.ft_semantics.specs.declared.status.Status.{Status}
use Rattle.ft_semantics.specs.Agrees.{IsPrefix, Agrees, equal, stopped}
use Rattle.ft_semantics.specs.State.{State, start}
use Rattle.ft_isa.specs.declared.plan.Site.{Site}
use Rattle.ft_semantics.specs.Strike.{struck_before, struck_state}
use Rattle.ft_semantics.specs.Run.{Ran, run, run-zero, state_after, outputs_after, status_after}
use Rattle.ft_semantics.specs.declared.status.Status.TheVariants as status
use Rattle.ft_semantics.proofs.Runs.{outputs_grow, run_stays, HasStopped}
use Rattle.ft_machine.proofs.Steps.{strike_keeps}
use Rattle.ft_tolerance.proofs.Whole.{never_detected}
use Rattle.ft_flight.specs.declared.flown.FlightEnd.TheVariants as end
use Rattle.ft_semantics.proofs.Struck.{struck_there, spared}
use Rattle.ft_machine.specs.Spans.{span, span-zero, Spares}
use Rattle.ft_machine.proofs.Spanned.{run_second, outputs_second}
use Rattle.ft_tolerance.proofs.Masking.{tolerant, before}
use Rattle.ft_flight.specs.declared.state.FlightState.{FlightState}
use Rattle.ft_flight.specs.declared.flown.CellOutput.{CellOutput}
use Rattle.ft_flight.specs.declared.flown.FlightEnd.{FlightEnd}
use Rattle.ft_flight.specs.States.{state_in}
use Rattle.ft_flight.specs.Steps.{Took, Ends, done, detected, cut, full, cell_output, outputs_from, status_from}
use Rattle.ft_types.specs.InitialWords.{object_with_words}
use Rattle.ft_flight.specs.Flights.{IsBy, IsFlight, HandedOut, HandsOn, IsWhole}
use Rattle.ft_recover.proofs.Restarts.{begins}
use Rattle.ft_flight.proofs.NoAnswers.{no_words, none_after}
use Rattle.ft_flight.proofs.Overlaps.{past, past_long}
use Rattle.ft_flight.proofs.Started.{same_span}

-- a strike at step k or earlier is not at a later step
pub not_at : (x : Strike) (k j : ℕ) → x.step ≤ k → k < j → x.step ≡ j → ⊥
not_at x k j by above is = omega (arith, by, above, is)

-- a strike at step k or earlier strikes no later step
spares_later : (strike : Option Strike) (k : ℕ) → IfSome strike (IsBy k) → (j : ℕ) → k < j → Spares strike j
spares_later None k by j above s = refl
spares_later (Some x) k by j above s = spared x j (not_at x k j by above) s

-- a step that is not after k is not after k + m
pub grows : (x : Strike) (k m : ℕ) → x.step ≤ k → x.step ≤ k + m
grows x k m by = omega (arith, by)

by_then : (strike : Option Strike) (k m : ℕ) → IfSome strike (IsBy k) → IfSome strike (IsBy (k + m))
by_then None k m by = tt
by_then (Some x) k m by = grows x k m by

-- two prefixes of the outputs of one run are prefixes of the same outputs
meet : (o : Object) (xs ys : List Output) (n m : ℕ) → IsPrefix xs (outputs_after o None no_words n) →
    IsPrefix ys (outputs_after o None no_words m) →
    (k : ℕ) × (IsPrefix xs (outputs_after o None no_words k) × IsPrefix ys (outputs_after o None no_words k))
meet o xs ys n m p q = (
  n + m,
  (
    on n xs p (omega arith),
    on m ys q (omega arith),
  ),
)
  where
    on : (i : ℕ) (zs : List Output) → IsPrefix zs (outputs_after o None no_words i) → i ≤ n + m
        → IsPrefix zs (outputs_after o None no_words (n + m))
    on i zs h le =
        let g = outputs_grow o None no_words i (n + m) le in
        (h.0 ++ g.0, sym (append_assoc zs h.0 g.0) ∙ ap (λ l. l ++ g.0) h.1 ∙ g.1)

done_at : (e : FlightEnd) (most taken count room : ℕ) (v : Status) → Ends e most taken count room v → e ≡ end.Done → v
    ≡ status.Done
done_at e most taken count room v (done a b) is = b
done_at e most taken count room v (detected a b) is = (let x = sym a ∙ is in cc)
done_at e most taken count room v (cut a b c) is = (let x = sym a ∙ is in cc)
done_at e most taken count room v (full a b c d) is = (let x = sym a ∙ is in cc)

detected_at : (e : FlightEnd) (most taken count room : ℕ) (v : Status) → Ends e most taken count room v → e
    ≡ end.Detected → v ≡ status.Detected
detected_at e most taken count room v (done a b) is = (let x = sym a ∙ is in cc)
detected_at e most taken count room v (detected a b) is = b
detected_at e most taken count room v (cut a b c) is = (let x = sym a ∙ is in cc)
detected_at e most taken count room v (full a b c d) is = (let x = sym a ∙ is in cc)

agreeing : (os os' : List Output) (v v' : Status) → v ≡ status.Done → Agrees os v os' v' → (os ≡ os')
    × (v' ≡ status.Done)
agreeing os os' v v' d (equal x y) = (x, sym y ∙ d)
agreeing os os' v v' d (stopped x y) = (let z = sym d ∙ x in absurd (cc))

shorter : (a b c d f : List Output) → a ++ b ≡ c → c ++ d ≡ f → length a ≤ length f
shorter a b c d f e g =
    let x = sym (length-append a b) ∙ ap length e in
    let y = sym (length-append c d) ∙ ap length g in
    omega (arith, x, y)

highest : (h s t l : ℕ) → t ≡ max h s → s ≡ l → h ≤ l → t ≡ l
highest h s t l a b c = omega (arith, a, b, c)

module _ (o : Object) (saved : List ℕ) (strike : Option Strike) (s s' : FlightState) (cells cells' : List ℕ)
    (steps n count : ℕ)
    (e : FlightEnd) (new : List CellOutput) (h : IsFlight o strike s cells saved)
    (t : Took o s cells s' cells' steps n count e new) where
  abbrev O : Object
  O = object_with_words o saved

  abbrev S : State
  S = state_in o s cells

  no_wild : no_words ≡ (run O strike no_words s.steps).wild
  no_wild = sym (none_after O strike s.steps)

  later : (j : ℕ) → s.steps < j → Spares strike j
  later = spares_later strike s.steps h.by

  above : (m : ℕ) → s.steps < s.steps + suc m
  above m = omega arith

  state_on : (m : ℕ) → (span O m S no_words).state
      ≡ struck_before strike (s.steps + m) (state_after O strike no_words (s.steps + m))
  state_on zero = ap (λ (x : Ran). x.state) (span-zero O S no_words) ∙ h.state
      ∙ ap (λ k. struck_before strike k (state_after O strike no_words k)) (sym (add-zero s.steps))
  state_on (suc m) =
      let on = run_second O strike no_words (state_after O strike no_words s.steps) S no_words s.steps (suc m) refl
      no_wild h.state later (omega arith) in
      ap (λ (x : Ran). x.state) (sym on)
      ∙ sym (later (s.steps + suc m) (above m) (state_after O strike no_words (s.steps + suc m)))

  outputs_are : (m : ℕ) → outputs_after O strike no_words (s.steps + m) ≡ outputs_after O strike no_words s.steps
      ++ outputs_from o S m
  outputs_are m = outputs_second O strike no_words (state_after O strike no_words s.steps) S no_words s.steps refl
      no_wild h.state later m
      ∙ ap (λ (r : Ran). outputs_after O strike no_words s.steps ++ r.outputs) (same_span o saved m S no_words)

  more_seen : s'.seen ≡ length (outputs_after O strike no_words (s.steps + n))
  more_seen = t.seen_is ∙ ap (λ k. k + length (outputs_from o S n)) h.seen
      ∙ sym (length-append (outputs_after O strike no_words s.steps) (outputs_from o S n))
      ∙ ap length (sym (outputs_are n))

  high : s'.seen ≤ s'.handed
  high = subst (λ k. s'.seen ≤ k) (sym t.handed_is) (omega arith)

  -- the same attempt goes on
  pub flight_next : IsFlight o strike s' cells' saved
  flight_next = record {
    spellable = h.spellable;
    accepted = h.accepted;
    by = subst (λ k. IfSome strike (IsBy k)) (sym t.steps_is) (by_then strike s.steps n h.by);
    state = subst (λ k. state_in o s' cells' ≡ struck_before strike k (state_after O strike no_words k))
        (sym t.steps_is)
        (t.fills.state_is ∙ ap (λ (r : Ran). r.state) (sym (same_span o saved n S no_words)) ∙ state_on n);
    seen = subst (λ k. s'.seen ≡ length (outputs_after O strike no_words k)) (sym t.steps_is) more_seen;
    handed = high;
  }

  -- what is handed out goes on with the outputs of the cycle without a strike
  pub hands_next : (given : List Output) → HandedOut O s.handed given → HandsOn O s'.handed count given new
  hands_next given g =
      let xs = outputs_after O strike no_words s.steps in
      let more = outputs_from o S n in
      let front = begins _ _ _ _ (tolerant O strike no_words (s.steps + n) h.spellable h.accepted) in
      let both = meet O given (xs ++ more) g.far (s.steps + n) g.front
      (subst (λ ys. IsPrefix ys (outputs_after O None no_words (s.steps + n))) (outputs_are n) front) in
      let low : length xs ≤ length given = subst (λ k.
      k ≤ length given) h.seen (subst (λ k. s.seen ≤ k) (sym g.count) h.handed) in
      let on = past given xs more both.1.0.0 both.1.1.0 low (both.1.0.1 ∙ sym both.1.1.1) in
      let skip : s.handed - s.seen ≡ length given - length xs = ap (λ k. k - s.seen) (sym g.count)
      ∙ ap (λ k. length given - k) h.seen in
      record {
        more = drop (length given - length xs) more;
        stand = subst (λ k. take count new ≡ map cell_output (drop k more)) skip t.fills.outputs;
        all = record {
          count = past_long given more (length xs) low ∙ ap (λ k. max k (length xs + length more)) g.count
              ∙ ap (max s.handed) (ap (λ k. k + length more) (sym h.seen) ∙ sym t.seen_is) ∙ sym t.handed_is;
          far = both.0;
          front = (on.0, on.1 ∙ both.1.0.1);
        };
      }

  status_on : status_from o S n ≡ status_after O strike no_words (s.steps + n)
  status_on = ap (λ (r : Ran). r.state.status) (sym (same_span o saved n S no_words))
      ∙ ap (λ (x : State). x.status) (state_on n)
      ∙ (strike_keeps strike (s.steps + n) (state_after O strike no_words (s.steps + n))).status

  same_whole : status_after O strike no_words (s.steps + n) ≡ status.Done →
      Agrees (outputs_after O strike no_words (s.steps + n))
      (status_after O strike no_words (s.steps + n)) (outputs_after O None no_words (s.steps + n))
      (status_after O None no_words (s.steps + n))
      → (outputs_after O strike no_words (s.steps + n) ≡ outputs_after O None no_words (s.steps + n))
      × (status_after O None no_words (s.steps + n) ≡ status.Done)
  same_whole ended a = agreeing _ _ _ _ ended a

  -- an attempt that is done has handed out all
  pub whole_next : (given : List Output) → HandedOut O s.handed given → e ≡ end.Done → IsWhole O s'
  whole_next given g is =
      let K = s.steps + n in
      let ended = sym status_on ∙ done_at e _ _ _ _ _ t.ends is in
      let same = same_whole ended (tolerant O strike no_words K h.spellable h.accepted) in
      let m = g.far + K in
      let stay : outputs_after O None no_words m ≡ outputs_after O None no_words K
      = ap (λ (r : Ran). r.outputs) (run_stays O None no_words K m (omega arith) (subst HasStopped (sym same.1) tt)) in
      let grow = outputs_grow O None no_words g.far m (omega arith) in
      let front = ap length g.front.1 in
      let low = shorter given g.front.0 (outputs_after O None no_words g.far) grow.0 (outputs_after O None no_words m)
      g.front.1 grow.1 in
      let seen = more_seen ∙ ap length same.0 in
      let small = subst (λ k. k ≤ length (outputs_after O None no_words K)) g.count
      (subst (λ xs. length given ≤ length xs) stay low) in
      record {
        done = subst (λ k. status_after O None no_words k ≡ status.Done) (sym t.steps_is) same.1;
        all = subst (λ k. s'.handed ≡ length (outputs_after O None no_words k)) (sym t.steps_is)
            (highest s.handed s'.seen s'.handed (length (outputs_after O None no_words K)) t.handed_is seen small);
      }

-- the words of the start hold an attempt that has not taken a step
pub flight_first : (o : Object) (s : FlightState) (cells saved : List ℕ) → IsSpellable (object_with_words o saved) →
    IsAccepted (object_with_words o saved) →
    state_in o s cells ≡ start (object_with_words o saved) → s.steps ≡ 0 → s.seen ≡ 0 → IsFlight o None s cells saved
flight_first o s cells saved spellable accepted begun steps seen =
    let O : Object = object_with_words o saved in
    record {
      spellable = spellable;
      accepted = accepted;
      by = tt;
      state = subst (λ k. state_in o s cells ≡ state_after O None no_words k) (sym steps)
          (begun ∙ ap (λ (r : Ran). r.state) (sym (run-zero O None no_words)));
      seen = subst (λ k. s.seen ≡ length (outputs_after O None no_words k)) (sym steps)
          (seen ∙ ap (λ (r : Ran). length r.outputs) (sym (run-zero O None no_words)));
      handed = omega (arith, seen);
    }

-- a strike before the next step
pub flight_struck : (o : Object) (s s' : FlightState) (cells saved : List ℕ) (site : Site) (value : ℕ) →
    IsFlight o None s cells saved →
    state_in o s' cells ≡ struck_state (state_in o s cells) site value → s'.steps ≡ s.steps → s'.seen ≡ s.seen →
    s'.handed ≡ s.handed →
    IsFlight o (Some (record { step = s.steps; site = site; value = value })) s' cells saved
flight_struck o s s' cells saved site value h struck steps seen handed =
    let O : Object = object_with_words o saved in
    let x : Strike = record { step = s.steps; site = site; value = value } in
    let now : s.steps ≤ s.steps = omega arith in
    let same = before O x no_words s.steps now in
    record {
      spellable = h.spellable;
      accepted = h.accepted;
      by = subst (λ k. s.steps ≤ k) (sym steps) now;
      state = subst (λ k. state_in o s' cells ≡ struck_before (Some x) k (state_after O (Some x) no_words k))
          (sym steps)
          (struck ∙ ap (λ t. struck_state t site value) (h.state ∙ ap (λ (r : Ran). r.state) same)
          ∙ sym (struck_there x (state_after O (Some x) no_words s.steps)));
      seen = subst (λ k. s'.seen ≡ length (outputs_after O (Some x) no_words k)) (sym steps)
          (seen ∙ h.seen ∙ ap (λ (r : Ran). length r.outputs) same);
      handed = subst (λ k. k ≤ s'.handed) (sym seen) (subst (λ k. s.seen ≤ k) (sym handed) h.handed);
    }

-- only a strike leads to a detection
pub undetected : (o : Object) (saved : List ℕ) (s s' : FlightState) (cells cells' : List ℕ) (steps n count : ℕ)
    (e : FlightEnd) (new : List CellOutput) → IsFlight o None s cells saved →
    Took o s cells s' cells' steps n count e new → e ≡ end.Detected → ⊥
undetected o saved s s' cells cells' steps n count e new h t is =
    never_detected (object_with_words o saved) no_words h.spellable h.accepted (s.steps + n)
    (sym (status_on o saved None s s' cells cells' steps n count e new h t) ∙ detected_at e _ _ _ _ _ t.ends is)
