-- Legs: runs from a state that fits a place, under at most one strike.
use Rattle.std.proofs.Common.{◌≡◌, ⊎_elim, ℕ, zero, suc, ◌+◌, ◌<◌, ◌≤◌, List, [], ◌++◌, Option, Some, None, refl, sym}
use Rattle.std.proofs.Common.{ap, ◌∙◌, subst, arith, append-nil, append_assoc}
use Rattle.std.specs.Option.{option_to_list}
use Rattle.std.proofs.lemmas.Bool.{cases_eq, cases_lt}
use Rattle.ft_simulation.proofs.Sequences.{lockstep}
use Rattle.ft_isa.specs.declared.colour.Colour.{Colour}
use Rattle.ft_isa.specs.declared.colour.Colour.TheVariants.{Green}
use Rattle.ft_isa.specs.declared.output.Output.{Output}
use Rattle.ft_isa.specs.declared.plan.Strike.{Strike}
use Rattle.ft_isa.specs.declared.plan.Wild.{Wild}
use Rattle.ft_types.specs.declared.object.Object.{Object}
use Rattle.ft_types.specs.Spellable.{IsSpellable}
use Rattle.ft_typing.specs.Accepted.{IsAccepted}
use Rattle.ft_semantics.specs.State.{State, start}
use Rattle.ft_semantics.specs.Step.{step}
use Rattle.ft_semantics.specs.Strike.{struck_before}
use Rattle.ft_semantics.specs.Run.{Ran, extended, run, state_after, wild_after, outputs_after}
use Rattle.ft_semantics.proofs.Struck.{struck_there, spared}
use Rattle.ft_tolerance.specs.TypedState.{Place, next_place, start_place}
use Rattle.ft_tolerance.specs.Soundness.{EndsOrFits, ended, running}
use Rattle.ft_tolerance.specs.Alike.{AreAlike, colour_of_site}
use Rattle.ft_tolerance.proofs.Alike.{alike_itself, strike_alike}
use Rattle.ft_tolerance.proofs.Masking.{AreTied, together, tied_step}
use Rattle.ft_tolerance.proofs.Start.{start_is_place, start_fits}
use Rattle.ft_tolerance.proofs.AnyAnswers.{any_answers}
use Rattle.ft_points.specs.Points.{AreTogether, both_done, both_run, run_from, GoesOnFrom}
use Rattle.ft_points.proofs.Together.{go_together}

-- STATES THAT ARE TOGETHER

-- states that are together have the same status
pub same_status : (o : Object) (p : Place) (s u : State) → AreTogether o p s u → s.status ≡ u.status
same_status o p s u (both_done d e) = d ∙ sym e
same_status o p s u (both_run go go' at fits fits' f) = go ∙ sym go'

-- the second of two such states is together with itself
pub with_itself : (o : Object) (p : Place) (s u : State) → AreTogether o p s u → AreTogether o p u u
with_itself o p s u (both_done d e) = both_done e e
with_itself o p s u (both_run go go' at fits fits' f) = both_run go' go' at fits' fits' refl

-- the first of two states that are together is done or fits the place
pub ends_or_fits : (o : Object) (p : Place) (s u : State) → AreTogether o p s u → EndsOrFits o p s
ends_or_fits o p s u (both_done d e) = ended d
ends_or_fits o p s u (both_run go go' at fits fits' f) = running go at fits

-- the start is together with itself
pub start_together : (o : Object) → IsSpellable o → IsAccepted o → AreTogether o (start_place o) (start o) (start o)
start_together o spelled acc =
    let fits = start_fits o spelled acc in
    both_run refl refl (start_is_place o spelled) fits fits refl

-- RUNS WITHOUT A FAULT

-- two runs have the same outputs, and their states are together
pub record RunTogether (o : Object) (x y : Ran) : Type 0 where
  pub place : Place
  pub states : AreTogether o place x.state y.state
  pub outputs : x.outputs ≡ y.outputs

-- runs from states that are together stay so
pub run_together : (o : Object) (p : Place) (s u : State) (w v : List Wild) (n : ℕ) → IsSpellable o → IsAccepted o →
    AreTogether o p s u → RunTogether o (run_from o s None w n) (run_from o u None v n)
unfolding run_from
run_together o p s u w v zero spelled acc h = record { place = p; states = h; outputs = refl }
run_together o p s u w v (suc n) spelled acc h =
    let b = run_together o p s u w v n spelled acc h in
    let x = run_from o s None w n in
    let y = run_from o u None v n in
    let g = go_together o b.place x.state y.state x.wild y.wild spelled acc b.states in
    record {
      place = next_place o x.state.fetched x.state b.place;
      states = g.after;
      outputs = λ i. b.outputs i ++ option_to_list (g.output i);
    }

-- n + k steps are n steps and then k from the state there
pub runs_join : (o : Object) (w : List Wild) (n k : ℕ) → run o None w (n + k) ≡ (let x = run_from o
    (state_after o None w n) None (wild_after o None w n) k in
    record { state = x.state; wild = x.wild; outputs = outputs_after o None w n ++ x.outputs })
unfolding run run_from
runs_join o w n zero =
    ap (run o None w) (let e : n + 0 ≡ n = omega arith in e)
    ∙ (λ i. record {
      state = state_after o None w n;
      wild = wild_after o None w n;
      outputs = sym (append-nil (outputs_after o None w n)) i;
    })
runs_join o w n (suc k) =
    let x = run_from o (state_after o None w n) None (wild_after o None w n) k in
    let t = step o x.state x.wild in
    ap (run o None w) (let e : n + suc k ≡ suc (n + k) = omega arith in e)
    ∙ ap (λ (r : Ran). extended r.outputs (step o r.state r.wild)) (runs_join o w n k)
    ∙ (λ i. record {
      state = t.state;
      wild = t.wild;
      outputs = append_assoc (outputs_after o None w n) x.outputs (option_to_list t.output) i;
    })

-- the run without a fault after n + k steps, and the run after k steps from a state that is together with that after n
pub record GoesAlong (o : Object) (w : List Wild) (m : ℕ) (before : List Output) (y : Ran) : Type 0 where
  pub place : Place
  pub states : AreTogether o place (state_after o None w m) y.state
  pub outputs : outputs_after o None w m ≡ before ++ y.outputs

-- two runs from states that are together stay together, with the same outputs
pub goes_along : (o : Object) (p : Place) (u : State) (w v : List Wild) (n k : ℕ) → IsSpellable o → IsAccepted o →
    AreTogether o p (state_after o None w n) u →
    GoesAlong o w (n + k) (outputs_after o None w n) (run_from o u None v k)
goes_along o p u w v n k spelled acc h =
    let j = runs_join o w n k in
    let b = run_together o p (state_after o None w n) u (wild_after o None w n) v k spelled acc h in
    record {
      place = b.place;
      states = subst (λ (s : State). AreTogether o b.place s (run_from o u None v k).state)
          (ap (λ (r : Ran). r.state) (sym j)) b.states;
      outputs = ap (λ (r : Ran). r.outputs) j ∙ ap (λ l. outputs_after o None w n ++ l) b.outputs;
    }

-- so a state that is together with that after n steps goes on as the run without a fault, whatever answers there are
pub goes_on_from : (o : Object) (p : Place) (u : State) (n : ℕ) → IsSpellable o → IsAccepted o →
    AreTogether o p (state_after o None [] n) u → GoesOnFrom o n u
goes_on_from o p u n spelled acc h =
    let along = λ (w : List Wild) (k : ℕ). goes_along o p u w w n k spelled acc
    (subst (λ (s : State). AreTogether o p s u) (any_answers o [] w n spelled acc).state h) in
    record {
      outputs = λ w k. (along w k).outputs;
      status = λ w k. same_status o _ _ _ (along w k).states;
    }

-- RUNS UNDER A STRIKE

-- a state is alike to itself
pub alike_state : (c : Colour) (s : State) → AreAlike c s s
alike_state c s = record {
  registers = alike_itself c s.registers;
  d = λ _. refl;
  pc_green = λ _. refl;
  pc_blue = λ _. refl;
  queue = λ _. refl;
  queue_length = refl;
  cells = refl;
  fetched = refl;
  status = refl;
}

module _ (o : Object) (s : State) (x : Strike) (w : List Wild) where
  -- before the strike, the runs are the same
  before : (n : ℕ) → n ≤ x.step → run_from o s None w n ≡ run_from o s (Some x) w n
  unfolding run_from
  before = lockstep (run_from o s None w) (run_from o s (Some x) w) (λ n r q. n ≤ x.step → r ≡ q) (λ _. refl)
      (λ k same le.
      let r = run_from o s (Some x) w k in
      ap (λ (q : Ran). extended q.outputs (step o q.state q.wild)) (same (omega arith))
      ∙ ap (λ t. extended r.outputs (step o t r.wild)) (sym (spared x k (λ e. omega arith) r.state)))

  -- the colour of the struck site
  abbrev pub c : Colour
  c = colour_of_site (run_from o s None w x.step).state x.site

  -- the run just before step n, struck if the strike is due there
  abbrev ready : ℕ → Ran → Ran
  ready n r = record r { state = struck_before (Some x) n r.state }

  -- the strike leaves the runs tied
  tied_there : (n : ℕ) → x.step ≡ n → AreTied c (run_from o s None w n) (ready n (run_from o s (Some x) w n))
  tied_there n e =
      let t = (run_from o s None w x.step).state in
      subst (λ k. AreTied c (run_from o s None w k) (ready k (run_from o s (Some x) w k))) e
      (subst (λ (r : Ran). AreTied c (run_from o s None w x.step) (ready x.step r)) (before x.step (omega arith))
      (together (subst (AreAlike c t) (sym (struck_there x t)) (strike_alike t x.site x.value)) refl))

  module _ (p : Place) (spelled : IsSpellable o) (acc : IsAccepted o) (h : AreTogether o p s s) where
    -- the run without the strike is done or fits a place
    along : (n : ℕ) → (q : Place) × EndsOrFits o q (run_from o s None w n).state
    along n = let b = run_together o p s s w w n spelled acc h in (b.place, ends_or_fits o b.place _ _ b.states)

    -- the runs stay tied
    pub tied : (n : ℕ) → x.step ≤ n → AreTied c (run_from o s None w n) (ready n (run_from o s (Some x) w n))
    unfolding run_from
    tied =
        lockstep (run_from o s None w) (run_from o s (Some x) w) (λ n r q. x.step ≤ n → AreTied c r (ready n q))
        (λ le. tied_there 0 (omega arith))
        (λ k t le.
        ⊎_elim (tied_there (suc k))
        (λ (ne : x.step ≡ suc k → ⊥).
        let r = run_from o s (Some x) w (suc k) in
        subst (λ q. AreTied c (run_from o s None w (suc k)) (record r { state = q }))
        (sym (spared x (suc k) ne r.state))
        (tied_step c o _ _ _ spelled acc (along k).1 (t (omega arith))))
        (cases_eq x.step (suc k)))

    -- after each step from the strike on, the runs are tied
    followed : (n : ℕ) → x.step < n → AreTied c (run_from o s None w n) (run_from o s (Some x) w n)
    followed n lt =
        let r = run_from o s (Some x) w n in
        subst (λ q. AreTied c (run_from o s None w n) (record r { state = q })) (spared x n (λ e. omega arith) r.state)
        (tied n (omega arith))

-- under at most one strike, a run from a state that fits a place is tied, for some colour, to the run without a strike
pub leg_tied : (o : Object) (p : Place) (s : State) (strike : Option Strike) (w : List Wild) (n : ℕ) → IsSpellable o →
    IsAccepted o → AreTogether o p s s → (c : Colour) × AreTied c (run_from o s None w n) (run_from o s strike w n)
leg_tied o p s None w n spelled acc h = (Green, together (alike_state Green _) refl)
leg_tied o p s (Some x) w n spelled acc h =
    ⊎_elim
    (λ (lt : x.step < n). (c o s x w, followed o s x w p spelled acc h n lt))
    (λ (le : n ≤ x.step). (
      Green,
      subst (AreTied Green (run_from o s None w n)) (before o s x w n le)
          (together (alike_state Green _) refl),
    ))
    (cases_lt x.step n)
