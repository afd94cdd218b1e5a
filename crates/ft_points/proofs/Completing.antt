-- A leg without a strike completes the output; a certified run is masked.
use Rattle.std.proofs.Common.{◌≡◌, ◌≢◌, ℕ, zero, suc, ◌+◌, ◌<◌, true, List, [], ◌∷◌, ◌++◌, Option, Some}
use Rattle.std.proofs.Common.{None, refl, sym, ap, ◌∙◌, subst, arith, append-nil, append_assoc, if◌then◌else◌, false}
use Rattle.std.specs.Option.{option_to_list}
use Rattle.ft_isa.specs.declared.plan.Strike.{Strike}
use Rattle.ft_isa.specs.declared.plan.Wild.{Wild}
use Rattle.ft_types.specs.declared.object.Object.{Object}
use Rattle.ft_types.specs.Spellable.{IsSpellable}
use Rattle.ft_typing.specs.Accepted.{IsAccepted}
use Rattle.ft_semantics.specs.declared.status.Status.TheVariants.{Done, Detected}
use Rattle.ft_semantics.specs.State.{State, start}
use Rattle.ft_semantics.specs.Step.{step}
use Rattle.ft_semantics.specs.Run.{Ran, extended, after_step, run, state_after, wild_after, outputs_after, status_after}
use Rattle.ft_semantics.proofs.Runs.{run_stays, run_stops_once}
use Rattle.ft_semantics.proofs.Struck.{spared}
use Rattle.ft_tolerance.specs.TypedState.{Place, start_place}
use Rattle.ft_points.specs.Points.{AreTogether}
use Rattle.ft_tolerance.proofs.Whole.{never_detected}
use Rattle.ft_tolerance.proofs.AnyAnswers.{any_answers}
use Rattle.ft_points.specs.Certified.{is_certified}
use Rattle.ft_points.specs.Points.{run_from, Leg, Progress, leg_run, kept, rolled_back, after_leg, after_legs}
use Rattle.ft_points.specs.Points.{unstruck, Completes, IsMaskedFrom}
use Rattle.ft_points.proofs.Legs.{same_status, start_together, goes_along, leg_tied}
use Rattle.ft_points.proofs.Right.{holds_all, right, done_stops, leads_by, certified_together, certified_runs}

-- LEGS WITHOUT A STRIKE

-- the status after a leg is that at its end
status_is : (o : Object) (x : Leg) (g : Progress) → (after_leg o x g).status ≡ (leg_run o x g).state.status
status_is o x g = elim (is_certified o (leg_run o x g).state) as (λ b.
    (if b then kept g (leg_run o x g) else rolled_back g (leg_run o x g)).status ≡ (leg_run o x g).state.status)
    [ true ↦ refl | false ↦ refl ]

-- a leg without a strike is never detected, and is done with all outputs if it is long enough
pub completes : (o : Object) (xs : List Leg) (w : List Wild) (n : ℕ) → IsSpellable o → IsAccepted o →
    Completes o w n (after_leg o (unstruck w n) (after_legs o xs))
completes o xs w n spelled acc =
    let g = after_legs o xs in
    let h = holds_all o xs spelled acc in
    let along = goes_along o h.place g.state [] w h.taken n spelled acc h.together in
    let is = same_status o along.place _ _ along.states ∙ sym (status_is o (unstruck w n) g) in
    let answers = any_answers o [] w in
    let later : status_after o None w n ≡ Done → status_after o None [] (h.taken + n) ≡ Done = (λ d.
    let early : status_after o None [] n ≡ Done = ap (λ (s : State). s.status) (answers n spelled acc).state ∙ d in
    ap (λ (r : Ran). r.state.status) (run_stays o None [] n (h.taken + n) (omega arith) (done_stops _ early)) ∙ early)
    in
    let done : status_after o None w n ≡ Done → (after_leg o (unstruck w n) g).status ≡ Done = (λ d.
    sym is ∙ later d) in
    let r = right o (unstruck w n ∷ xs) spelled acc in
    record {
      undetected = λ e. never_detected o [] spelled acc (h.taken + n) (is ∙ e);
      done = done;
      whole = λ d. (let y = r.whole (done d) w in
          ap (λ (z : Ran). z.outputs) (run_stops_once o None w n r.enough (done_stops _ d) (done_stops _ y.0)) ∙ y.1);
    }

-- ONE STRIKE

-- a run from the start is the run
from_start : (o : Object) (strike : Option Strike) (w : List Wild) (n : ℕ) → run o strike w n
    ≡ run_from o (start o) strike w n
unfolding run run_from
from_start o strike w zero = refl
from_start o strike w (suc n) = ap (after_step o strike n) (from_start o strike w n)

-- after the strike, n + k steps are n steps and then k without a strike
struck_join : (o : Object) (x : Strike) (w : List Wild) (n k : ℕ) → x.step < n → run o (Some x) w (n + k)
    ≡ (let y = run_from o (state_after o (Some x) w n) None (wild_after o (Some x) w n) k in
    record { state = y.state; wild = y.wild; outputs = outputs_after o (Some x) w n ++ y.outputs })
unfolding run run_from
struck_join o x w n zero lt =
    ap (run o (Some x) w) (let e : n + 0 ≡ n = omega arith in e)
    ∙ (λ i. record {
      state = state_after o (Some x) w n;
      wild = wild_after o (Some x) w n;
      outputs = sym (append-nil (outputs_after o (Some x) w n)) i;
    })
struck_join o x w n (suc k) lt =
    let y = run_from o (state_after o (Some x) w n) None (wild_after o (Some x) w n) k in
    let t = step o y.state y.wild in
    ap (run o (Some x) w) (let e : n + suc k ≡ suc (n + k) = omega arith in e)
    ∙ ap (after_step o (Some x) (n + k)) (struck_join o x w n k lt)
    ∙ ap (λ s. extended (outputs_after o (Some x) w n ++ y.outputs) (step o s y.wild))
    (spared x (n + k) (λ e. omega (arith, lt, e)) y.state)
    ∙ (λ i. record {
      state = t.state;
      wild = t.wild;
      outputs = append_assoc (outputs_after o (Some x) w n) y.outputs (option_to_list t.output) i;
    })

-- a certified state of a struck run, with the place of the run without the strike and the outputs of both
record Meets (o : Object) (x : Strike) (w : List Wild) (n : ℕ) : Type 0 where
  pub place : Place
  pub states : AreTogether o place (state_after o None w n) (state_after o (Some x) w n)
  pub outputs : outputs_after o None w n ≡ outputs_after o (Some x) w n

-- the state of the run without the strike and the certified state are together
meets : (o : Object) (x : Strike) (w : List Wild) (n : ℕ) → IsSpellable o → IsAccepted o →
    is_certified o (state_after o (Some x) w n) ≡ true → Meets o x w n
unfolding run
meets o x w n spelled acc cert =
    let st = start_together o spelled acc in
    let along = goes_along o (start_place o) (start o) w w 0 n spelled acc st in
    let tie = leg_tied o (start_place o) (start o) (Some x) w n spelled acc st in
    let r = run_from o (start o) (Some x) w n in
    let is = from_start o (Some x) w n in
    let number : 0 + n ≡ n = omega arith in
    let cert' = subst (λ (y : Ran). is_certified o y.state ≡ true) is cert in
    let ok : r.state.status ≢ Detected = (let run = certified_runs o r.state cert' in λ e. cc) in
    let both = certified_together o tie.0 along.place (state_after o None w (0 + n)) (run_from o (start o) None w n) r
    spelled acc along.states tie.1 cert' in
    let same : outputs_after o None w (0 + n) ≡ r.outputs =
    (leads_by o tie.0 w (0 + n) [] (run_from o (start o) None w n)
    r along tie.1).same ok in
    record {
      place = along.place;
      states = subst (λ (y : Ran). AreTogether o along.place (state_after o None w n) y.state) (sym is)
          (subst (λ m. AreTogether o along.place (state_after o None w m) r.state) number both);
      outputs = ap (outputs_after o None w) (sym number) ∙ same ∙ ap (λ (y : Ran). y.outputs) (sym is);
    }

-- after the strike, a run that is certified goes on as the run without the strike
pub masked : (o : Object) (x : Strike) (w : List Wild) (n : ℕ) → IsSpellable o → IsAccepted o → x.step < n →
    is_certified o (state_after o (Some x) w n) ≡ true → IsMaskedFrom o x w n
masked o x w n spelled acc lt cert =
    let m = meets o x w n spelled acc cert in
    let along = λ (k : ℕ). goes_along o m.place (state_after o (Some x) w n) w (wild_after o (Some x) w n) n k spelled
    acc
    m.states in
    record {
      outputs = λ k.
          ap (λ (r : Ran). r.outputs) (struck_join o x w n k lt)
          ∙ ap (λ l. l ++ (run_from o (state_after o (Some x) w n) None (wild_after o (Some x) w n) k).outputs)
          (sym m.outputs)
          ∙ sym (along k).outputs;
      status = λ k.
          ap (λ (r : Ran). r.state.status) (struck_join o x w n k lt)
          ∙ sym (same_status o (along k).place _ _ (along k).states);
    }
