-- One strike is masked or detected, over whole runs.
use Rattle.std.proofs.Common.{◌≡◌, ◌≢◌, ⊎_elim, ℕ, suc, ◌<◌, ◌≤◌, List, [], ◌++◌, Option, Some, None, refl, sym, ap}
use Rattle.std.proofs.Common.{◌∙◌, subst, arith, append-nil}
use Rattle.std.specs.Option.{option_to_list}
use Rattle.std.proofs.lemmas.Bool.{cases_eq, cases_lt}
use Rattle.ft_simulation.proofs.Lists.{begins_on}
use Rattle.ft_simulation.proofs.Sequences.{lockstep}
use Rattle.ft_isa.specs.declared.colour.Colour.{Colour}
use Rattle.ft_isa.specs.declared.output.Output.{Output}
use Rattle.ft_isa.specs.declared.plan.Site.{Site}
use Rattle.ft_isa.specs.declared.plan.Strike.{Strike}
use Rattle.ft_isa.specs.declared.plan.Wild.{Wild}
use Rattle.ft_types.specs.declared.object.Object.{Object}
use Rattle.ft_semantics.specs.declared.status.Status.{Status}
use Rattle.ft_semantics.specs.declared.status.Status.TheVariants.{Running, Done, Detected}
use Rattle.ft_typing.specs.Accepted.{IsAccepted}
use Rattle.ft_semantics.specs.Agrees.{IsPrefix, Agrees, equal, stopped}
use Rattle.ft_types.specs.Spellable.{IsSpellable}
use Rattle.ft_semantics.specs.State.{State}
use Rattle.ft_semantics.specs.Step.{Stepping, step, step_at}
use Rattle.ft_semantics.specs.Strike.{struck_state, struck_before}
use Rattle.ft_semantics.specs.Run.{Ran, extended, run, state_after, outputs_after, status_after}
use Rattle.ft_semantics.proofs.Runs.{HasStopped, stays_at}
use Rattle.ft_semantics.proofs.Struck.{struck_there, spared}
use Rattle.ft_tolerance.specs.TypedState.{Place, Fits, IsPlace}
use Rattle.ft_tolerance.specs.Soundness.{EndsOrFits, ended, running}
use Rattle.ft_tolerance.specs.Alike.{AreAlike, colour_of_site, Follows, keeps_alike, is_detected, IsAlikeOrDetected}
use Rattle.ft_tolerance.specs.Alike.{is_alike, has_stopped, IsAlikeAfter, StaysAlike, IsAlikeLater}
use Rattle.ft_tolerance.proofs.Alike.{alike_step, strike_alike}
use Rattle.ft_tolerance.proofs.AcceptedSteps.{keeps, wants_fetched}
use Rattle.ft_tolerance.proofs.Whole.{along}

-- ONE STEP

pub undetected : (o : Object) (p : Place) (s : State) → EndsOrFits o p s → s.status ≢ Detected
undetected o p s (ended d) e = cc
undetected o p s (running go at fits) e = cc

-- steps from a state that fits a place of an accepted object and from an alike state keep them alike, or the second is
-- detected
pub step_follows : (c : Colour) (o : Object) (p : Place) (s t : State) (w v : List Wild) → IsSpellable o →
    IsAccepted o → IsPlace o p → s.status ≡ Running → Fits o p s → AreAlike c s t → Follows c (step o s w) (step o t v)
step_follows c o p s t w v spelled acc at go fits h =
    let k = keeps o p s w spelled acc at go fits in
    alike_step c o s t w v h (λ _ i e. wants_fetched o p s w spelled acc at go fits i e)
    (undetected o _ (step o s w).state k.after)

-- a state that is done does not change, and neither does an alike state
pub stopped_follows : (c : Colour) (o : Object) (s t : State) (w v : List Wild) → s.status ≡ Done → AreAlike c s t →
    Follows c (step o s w) (step o t v)
stopped_follows c o s t w v d h =
    subst (λ (x : Status). Follows c (step_at o x s w) (step o t v)) (sym d)
    (subst (λ (x : Status). Follows c (step_at o Done s w) (step_at o x t v)) (sym d ∙ h.status) (keeps_alike h refl))

-- steps from a state of the run without a fault and from an alike state keep them alike, or the second is detected
pub follows_along : (c : Colour) (o : Object) (p : Place) (s t : State) (w v : List Wild) → IsSpellable o →
    IsAccepted o → EndsOrFits o p s → AreAlike c s t → Follows c (step o s w) (step o t v)
follows_along c o p s t w v spelled acc (ended d) h = stopped_follows c o s t w v d h
follows_along c o p s t w v spelled acc (running go at fits) h = step_follows c o p s t w v spelled acc at go fits h

-- a detected state stays detected
pub detected_stays : (o : Object) (t : State) (v : List Wild) → t.status ≡ Detected →
    (step o t v).state.status ≡ Detected
detected_stays o t v d = ap (λ (x : Stepping). x.state.status) (stays_at o t.status t v (subst HasStopped (sym d) tt))
    ∙ d

follows_alike : (c : Colour) (x y : Stepping) → Follows c x y → IsAlikeOrDetected c x.state y.state
follows_alike c x y (keeps_alike h e) = is_alike h
follows_alike c x y (is_detected d e) = has_stopped d

-- if two states, the first from a run without a fault, are alike or the second is detected, this still holds after a
-- step from each
pub alike_next : (c : Colour) (o : Object) (p : Place) (s t : State) (w v : List Wild) → IsSpellable o → IsAccepted o →
    EndsOrFits o p s → IsAlikeOrDetected c s t → IsAlikeOrDetected c (step o s w).state (step o t v).state
alike_next c o p s t w v spelled acc fits (is_alike h) =
    follows_alike c _ _ (follows_along c o p s t w v spelled acc fits h)
alike_next c o p s t w v spelled acc fits (has_stopped d) = has_stopped (detected_stays o t v d)

-- WHOLE RUNS

-- the runs are alike and have the same outputs, or the struck run is detected and its outputs are a prefix of the
-- other's
pub data AreTied (c : Colour) (r x : Ran) : Type 0 where
  together : AreAlike c r.state x.state → r.outputs ≡ x.outputs → AreTied c r x
  over : x.state.status ≡ Detected → IsPrefix x.outputs r.outputs → AreTied c r x

-- a prefix of a list stays a prefix when the list is extended
pub prefix_more : (a b rest : List Output) → IsPrefix a b → IsPrefix a (b ++ rest)
prefix_more a b rest h = begins_on a b (b ++ rest) h (rest, refl)

-- if the outputs so far are equal, the runs are tied after a step that keeps them alike or detects the second
pub tied_after : (c : Colour) (os ps : List Output) (x y : Stepping) → os ≡ ps → Follows c x y →
    AreTied c (extended os x) (extended ps y)
tied_after c os ps x y e (keeps_alike h f) = together h (λ i. e i ++ option_to_list (f i))
tied_after c os ps x y e (is_detected h f) =
    over h (subst (λ (z : Option Output). IsPrefix (ps ++ option_to_list z) (os ++ option_to_list x.output)) (sym f)
    (prefix_more (ps ++ []) os (option_to_list x.output) ([], append-nil (ps ++ []) ∙ append-nil ps ∙ sym e)))

pub over_after : (c : Colour) (o : Object) (r : Stepping) (os ps : List Output) (x : Status) (w : List Wild)
    (t : State) → x ≡ Detected → t.status ≡ Detected → IsPrefix ps os →
    AreTied c (extended os r) (extended ps (step_at o x t w))
over_after c o r os ps Running w t e f h = cc
over_after c o r os ps Done w t e f h = cc
over_after c o r os ps Detected w t e f h = over f
    (subst (λ (l : List Output). IsPrefix l (os ++ option_to_list r.output)) (sym (append-nil ps))
    (prefix_more ps os (option_to_list r.output) h))

-- tied runs stay tied after one more step of both, without a strike
pub tied_step : (c : Colour) (o : Object) (p : Place) (r x : Ran) → IsSpellable o → IsAccepted o →
    EndsOrFits o p r.state →
    AreTied c r x → AreTied c (extended r.outputs (step o r.state r.wild)) (extended x.outputs (step o x.state x.wild))
tied_step c o p r x spelled acc fits (together h e) =
    tied_after c r.outputs x.outputs _ _ e (follows_along c o p r.state x.state r.wild x.wild spelled acc fits h)
tied_step c o p r x spelled acc fits (over h e) = over_after c o (step o r.state r.wild) r.outputs x.outputs
    x.state.status x.wild x.state h h e

-- before the strike, the runs are the same
pub before : (o : Object) (x : Strike) (w : List Wild) (n : ℕ) → n ≤ x.step → run o None w n ≡ run o (Some x) w n
unfolding run
before o x w = lockstep (run o None w) (run o (Some x) w) (λ n r s. n ≤ x.step → r ≡ s) (λ _. refl) (λ k same le.
    let r = run o (Some x) w k in
    ap (λ (q : Ran). extended q.outputs (step o q.state q.wild)) (same (omega arith))
    ∙ ap (λ s. extended r.outputs (step o s r.wild)) (sym (spared x k (λ e. omega arith) r.state)))

pub alike_tied : (c : Colour) (r x : Ran) → AreTied c r x → IsAlikeOrDetected c r.state x.state
alike_tied c r x (together h e) = is_alike h
alike_tied c r x (over h e) = has_stopped h

module _ (o : Object) (x : Strike) (w : List Wild) where
  -- the colour of the struck site
  abbrev c : Colour
  c = colour_of_site (state_after o None w x.step) x.site

  -- the run just before step n, struck if the strike is due there
  abbrev ready : ℕ → Ran → Ran
  ready n r = record r { state = struck_before (Some x) n r.state }

  -- the strike leaves the runs tied
  tied_there : (n : ℕ) → x.step ≡ n → AreTied c (run o None w n) (ready n (run o (Some x) w n))
  tied_there n e =
      let s = state_after o None w x.step in
      subst (λ k. AreTied c (run o None w k) (ready k (run o (Some x) w k))) e
      (subst (λ (r : Ran). AreTied c (run o None w x.step) (ready x.step r)) (before o x w x.step (omega arith))
      (together (subst (AreAlike c s) (sym (struck_there x s)) (strike_alike s x.site x.value)) refl))

  module _ (spelled : IsSpellable o) (acc : IsAccepted o) where
    -- the runs stay tied
    tied : (n : ℕ) → x.step ≤ n → AreTied c (run o None w n) (ready n (run o (Some x) w n))
    unfolding run
    tied =
        lockstep (run o None w) (run o (Some x) w) (λ n r s. x.step ≤ n → AreTied c r (ready n s))
        (λ le. tied_there 0 (omega arith))
        (λ k h le.
        ⊎_elim (tied_there (suc k))
        (λ (ne : x.step ≡ suc k → ⊥).
        let r = run o (Some x) w (suc k) in
        subst (λ s. AreTied c (run o None w (suc k)) (record r { state = s })) (sym (spared x (suc k) ne r.state))
        (tied_step c o _ _ _ spelled acc (along o w k spelled acc).after (h (omega arith))))
        (cases_eq x.step (suc k)))

    -- after each step from the strike on, the runs are tied
    followed : (n : ℕ) → x.step < n → AreTied c (run o None w n) (run o (Some x) w n)
    followed n lt =
        let r = run o (Some x) w n in
        subst (λ s. AreTied c (run o None w n) (record r { state = s })) (spared x n (λ e. omega arith) r.state)
        (tied n (omega arith))

-- so the runs are alike, or the struck one is detected
pub alike_later : (o : Object) (x : Strike) (w : List Wild) (n : ℕ) → IsSpellable o → IsAccepted o →
    IsAlikeLater o x w n
alike_later o x w n spelled acc lt = alike_tied _ _ _ (followed o x w spelled acc n lt)

-- right after the strike, the states are alike
pub alike_at_once : (o : Object) (site : Site) (v k : ℕ) (w : List Wild) (s : State) → s
    ≡ struck_state (state_after o None w k) site v
    → IsAlikeAfter o (record { step = k; site = site; value = v }) w k s
alike_at_once o site v k w s e = is_alike (subst (λ (u : State).
    AreAlike (colour_of_site (state_after o None w k) site) (state_after o None w k) u) (sym e)
    (strike_alike (state_after o None w k) site v))

-- from the strike on, the runs are alike, or the struck one is detected
pub stays_alike : (o : Object) (x : Strike) (w : List Wild) (n : ℕ) → IsSpellable o → IsAccepted o → StaysAlike o x w n
stays_alike o x w n spelled acc le = alike_tied _ _ _ (tied o x w spelled acc n le)

pub agrees_tied : (c : Colour) (r x : Ran) → AreTied c r x → Agrees x.outputs x.state.status r.outputs r.state.status
agrees_tied c r x (together h e) = equal (sym e) (sym h.status)
agrees_tied c r x (over h e) = stopped h e

-- under a plan with at most one strike, a run agrees with the run without the strike
pub tolerant : (o : Object) (strike : Option Strike) (w : List Wild) (n : ℕ) → IsSpellable o → IsAccepted o →
    Agrees (outputs_after o strike w n) (status_after o strike w n) (outputs_after o None w n) (status_after o None w n)
tolerant o None w n spelled acc = equal refl refl
tolerant o (Some x) w n spelled acc =
    ⊎_elim
    (λ (lt : x.step < n). agrees_tied _ _ _ (followed o x w spelled acc n lt))
    (λ (le : n ≤ x.step). let e = before o x w n le in
    equal (ap (λ (r : Ran). r.outputs) (sym e)) (ap (λ (r : Ran). r.state.status) (sym e)))
    (cases_lt x.step n)
