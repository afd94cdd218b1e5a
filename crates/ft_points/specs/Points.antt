-- Runs with points: a certified state is kept, and each leg begins at the state kept last.
use Rattle.std.specs.Prelude.{◌≡◌, ◌≢◌, true, ℕ, zero, suc, ◌+◌, ◌-◌, if◌then◌else◌, List, [], ◌∷◌, ◌++◌, length, drop}
use Rattle.std.specs.Prelude.{Option, None, Some}
use Rattle.ft_isa.specs.declared.plan.Wild.{Wild}
use Rattle.ft_isa.specs.declared.plan.Strike.{Strike}
use Rattle.ft_isa.specs.declared.plan.Site.{Site}
use Rattle.ft_isa.specs.declared.output.Output.{Output}
use Rattle.ft_types.specs.declared.object.Object.{Object}
use Rattle.ft_semantics.specs.declared.status.Status.{Status}
use Rattle.ft_semantics.specs.declared.status.Status.TheVariants.{Running, Done, Detected}
use Rattle.ft_semantics.specs.State.{State, start}
use Rattle.ft_semantics.specs.Step.{Stepping}
use Rattle.ft_semantics.specs.Strike.{struck_state}
use Rattle.ft_semantics.specs.Run.{Ran, after_step, state_after, outputs_after, status_after}
use Rattle.ft_semantics.specs.Agrees.{IsPrefix}
use Rattle.ft_tolerance.specs.TypedState.{Place, Fits, IsPlace}
use Rattle.ft_points.specs.Certified.{is_certified}

-- STATES AT ONE PLACE

-- both states are done, or both are running and fit one place under one valuation, and the same is fetched
pub data AreTogether (o : Object) (p : Place) (s t : State) : Type 0 where
  both_done : s.status ≡ Done → t.status ≡ Done → AreTogether o p s t
  both_run : s.status ≡ Running → t.status ≡ Running → IsPlace o p → Fits o p s → Fits o p t → s.fetched ≡ t.fetched →
      AreTogether o p s t

-- two steps have the same output, and lead to states that are together
pub record GoTogether (o : Object) (p : Place) (x y : Stepping) : Type 0 where
  pub output : x.output ≡ y.output
  pub after : AreTogether o p x.state y.state

-- RUNS FROM A STATE

-- the run from a state after n steps, with no outputs before it; the strike's step is counted from there
unfoldable pub run_from : Object → State → Option Strike → List Wild → ℕ → Ran
run_from o s strike w zero = record { state = s; wild = w; outputs = [] }
run_from o s strike w (suc k) = after_step o strike k (run_from o s strike w k)

-- a state from which the run without a fault goes on as after n steps: it is together with the state of that run then
pub record IsPoint (o : Object) (n : ℕ) (s : State) : Type 0 where
  pub place : Place
  pub states : AreTogether o place (state_after o None [] n) s

-- LEGS

-- a leg of a run: at most one strike, at a step counted from its beginning; the answers to its wild loads; and how many
-- steps it takes
pub record Leg : Type 0 where
  pub strike : Option Strike
  pub wild : List Wild
  pub steps : ℕ

-- how far a run with points is: the state kept at the last point, how many outputs came before it, all outputs
-- committed so far, and the status at the end of the last leg
pub record Progress : Type 0 where
  pub state : State
  pub before : ℕ
  pub outputs : List Output
  pub status : Status

-- before the first leg: the first point is the start
abbrev pub begun : Object → Progress
begun o = record { state = start o; before = 0; outputs = []; status = Running }

-- a leg begins at the state kept
abbrev pub leg_run : Object → Leg → Progress → Ran
leg_run o x g = run_from o g.state x.strike x.wild x.steps

-- a leg leaves out as many of its outputs as were committed since the point
abbrev pub all_outputs : Progress → Ran → List Output
all_outputs g r = g.outputs ++ drop (length g.outputs - g.before) r.outputs

-- the state at the end of the leg is kept
abbrev pub kept : Progress → Ran → Progress
kept g r = record {
  state = r.state;
  before = g.before + length r.outputs;
  outputs = all_outputs g r;
  status = r.state.status;
}

-- the state kept before stays
abbrev pub rolled_back : Progress → Ran → Progress
rolled_back g r = record { state = g.state; before = g.before; outputs = all_outputs g r; status = r.state.status }

-- after a leg: the state at its end is kept exactly if it is certified
abbrev pub after_leg : Object → Leg → Progress → Progress
after_leg o x g = if is_certified o (leg_run o x g).state then kept g (leg_run o x g) else rolled_back g (leg_run o x g)

-- after these legs, of which the last comes first
abbrev pub after_legs : Object → List Leg → Progress
after_legs o [] = begun o
after_legs o (x ∷ xs) = after_leg o x (after_legs o xs)

-- WHAT HOLDS AFTER LEGS

-- the run from a state goes on as the run without a fault does after n steps: the same outputs and the same status
pub record GoesOnFrom (o : Object) (n : ℕ) (s : State) : Type 0 where
  pub outputs : (w : List Wild) (k : ℕ) →
      outputs_after o None w (n + k) ≡ outputs_after o None w n ++ (run_from o s None w k).outputs
  pub status : (w : List Wild) (k : ℕ) → status_after o None w (n + k) ≡ (run_from o s None w k).state.status

-- the state kept goes on as the run without a fault does after `taken` steps, which has committed `before` outputs, and
-- so does the state kept after a strike, if it is still certified; the outputs are a prefix of the output of that run;
-- and if the last leg ended as done, so does that run, with these outputs
pub record IsRight (o : Object) (g : Progress) : Type 0 where
  pub taken : ℕ
  pub rest : GoesOnFrom o taken g.state
  pub struck : (site : Site) (v : ℕ) → is_certified o (struck_state g.state site v) ≡ true →
      GoesOnFrom o taken (struck_state g.state site v)
  pub before : (w : List Wild) → g.before ≡ length (outputs_after o None w taken)
  pub enough : ℕ
  pub front : (w : List Wild) → IsPrefix g.outputs (outputs_after o None w enough)
  pub whole : g.status ≡ Done → (w : List Wild) →
      (status_after o None w enough ≡ Done) × (outputs_after o None w enough ≡ g.outputs)

-- LEGS WITHOUT A STRIKE

-- a leg without a strike
abbrev pub unstruck : List Wild → ℕ → Leg
unstruck w n = record { strike = None; wild = w; steps = n }

-- if the run without a fault is done after as many steps as this leg takes, the leg ends as done, and the outputs are
-- those of that run; in no case does the leg end as detected
pub record Completes (o : Object) (w : List Wild) (n : ℕ) (g : Progress) : Type 0 where
  pub undetected : g.status ≢ Detected
  pub done : status_after o None w n ≡ Done → g.status ≡ Done
  pub whole : status_after o None w n ≡ Done → outputs_after o None w n ≡ g.outputs

-- ONE STRIKE

-- after n + k steps the struck run has the outputs and the status of the run without the strike
pub record IsMaskedFrom (o : Object) (strike : Strike) (w : List Wild) (n : ℕ) : Type 0 where
  pub outputs : (k : ℕ) → outputs_after o (Some strike) w (n + k) ≡ outputs_after o None w (n + k)
  pub status : (k : ℕ) → status_after o (Some strike) w (n + k) ≡ status_after o None w (n + k)
