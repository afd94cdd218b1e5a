-- Runs under a plan, which holds at most one strike and the answers to wild loads.
use Rattle.std.specs.Prelude.{◌≡◌, ℕ, zero, suc, ◌+◌, Bool, ◌&&◌, nat_lt, false, List, [], ◌++◌, Option, Some, None}
use Rattle.std.proofs.Common.{refl, add-one}
use Rattle.std.specs.Option.{option_to_list}
use Rattle.ft_isa.specs.declared.plan.Wild.{Wild}
use Rattle.ft_isa.specs.declared.plan.Strike.{Strike}
use Rattle.ft_isa.specs.declared.output.Output.{Output}
use Rattle.ft_semantics.specs.declared.status.Status.{Status}
use Rattle.ft_types.specs.declared.object.Object.{Object}
use Rattle.ft_semantics.specs.State.{State, start}
use Rattle.ft_semantics.specs.Step.{Stepping, step}
use Rattle.ft_semantics.specs.Strike.{is_there, struck_before}

-- a run so far: the state, the wild answers left, and the outputs
pub record Ran : Type 0 where
  pub state : State
  pub wild : List Wild
  pub outputs : List Output

-- the run after a step with this result
abbrev pub extended : List Output → Stepping → Ran
extended outputs t = record { state = t.state; wild = t.wild; outputs = outputs ++ option_to_list t.output }

-- step k of a run: first the strike, if the plan strikes there, and then the machine's step
abbrev pub after_step : Object → Option Strike → ℕ → Ran → Ran
after_step o strike k r = extended r.outputs (step o (struck_before strike k r.state) r.wild)

-- the run of an object after n steps
unfoldable pub run : Object → Option Strike → List Wild → ℕ → Ran
run o strike w zero = record { state = start o; wild = w; outputs = [] }
run o strike w (suc k) = after_step o strike k (run o strike w k)

pub run-zero : (o : Object) (strike : Option Strike) (w : List Wild) → run o strike w 0 ≡ record { state = start o; wild = w; outputs = [] }
unfolding run
run-zero o strike w = refl

pub run-add_one : (o : Object) (strike : Option Strike) (w : List Wild) (k : ℕ) → run o strike w (k + 1) ≡ after_step o strike k (run o strike w k)
unfolding run
run-add_one o strike w k = rw add-one refl

-- the state, the wild answers left, the outputs and the status after n steps
abbrev pub state_after : Object → Option Strike → List Wild → ℕ → State
state_after o strike w n = (run o strike w n).state

abbrev pub wild_after : Object → Option Strike → List Wild → ℕ → List Wild
wild_after o strike w n = (run o strike w n).wild

abbrev pub outputs_after : Object → Option Strike → List Wild → ℕ → List Output
outputs_after o strike w n = (run o strike w n).outputs

abbrev pub status_after : Object → Option Strike → List Wild → ℕ → Status
status_after o strike w n = (state_after o strike w n).status

-- whether the plan's strike came within the first n steps and hit an existing site of a running machine
abbrev pub is_struck : Object → Option Strike → List Wild → ℕ → Bool
is_struck o None w n = false
is_struck o (Some strike) w n = nat_lt strike.step n && is_there (state_after o (Some strike) w strike.step) strike.site
