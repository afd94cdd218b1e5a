-- Steps whose outputs an outlet takes: the machine and the outlet after them.
use Rattle.std.specs.Prelude.{◌≡◌, ℕ, ◌+◌, ◌<◌, ◌≤◌, Bool, true, false, List, [], ◌∷◌, ◌++◌, Option, None}
use Rattle.std.specs.Option.{option_to_list}
use Rattle.ft_isa.specs.declared.instr.Instr.{Instr}
use Rattle.ft_isa.specs.declared.output.Output.{Output}
use Rattle.ft_isa.specs.declared.plan.Strike.{Strike}
use Rattle.ft_isa.specs.declared.plan.Wild.{Wild}
use Rattle.ft_types.specs.declared.object.Object.{Object}
use Rattle.ft_types.specs.Objects.{instr_at}
use Rattle.ft_semantics.specs.declared.status.Status.{Status}
use Rattle.ft_semantics.specs.declared.status.Status.TheVariants as status
use Rattle.ft_semantics.specs.State.{State}
use Rattle.ft_semantics.specs.Run.{state_after, outputs_after}
use Rattle.ft_machine.specs.Hears.{Hears}
use Rattle.ft_machine.specs.Spans.{span}
use Rattle.ft_machine.specs.Advances.{output_told, status_told}
use Rattle.ft_machine.specs.Effects.{doing}
use Rattle.ft_machine.specs.Banks.{Bank}
use Rattle.ft_machine.specs.declared.outlet.Outlet.{Ghosts}
use Rattle.ft_machine.specs.declared.stepped.Stepped.{Stepped}
use Rattle.ft_machine.specs.declared.stepped.Stepped.TheVariants as stepped
use Rattle.ft_machine.specs.declared.stepped.Pause.{Pause}
use Rattle.ft_machine.specs.declared.stepped.Pause.TheVariants.{Running, Done, Detected, Refused}

-- the machine's status after steps that ended in this way
abbrev pub status_at : Pause → Status
status_at Running = status.Running
status_at Done = status.Done
status_at Detected = status.Detected
status_at Refused = status.Running

-- whether the outlet goes on after steps that ended in this way
abbrev pub goes_on : Pause → Bool
goes_on Running = true
goes_on Done = true
goes_on Detected = true
goes_on Refused = false

-- the last of n steps gave an output
abbrev pub GivesLast : (ℕ → List Output) → ℕ → Type 0
GivesLast outputs n = (j : ℕ) × ((output : Output) × ((n ≡ j + 1) × (outputs n ≡ outputs j ++ output ∷ [])))

-- if the steps ended because the outlet does not go on, the last of them gave an output
abbrev pub EndsWith : Pause → (ℕ → List Output) → ℕ → Type 0
EndsWith Running outputs n = Unit {0}
EndsWith Done outputs n = Unit {0}
EndsWith Detected outputs n = Unit {0}
EndsWith Refused outputs n = GivesLast outputs n

-- n steps were taken from a state; each but the last left the machine running, and the outlet took their outputs
pub record Goes {T : Type 0} (outlet : Ghosts T) (o : Object) (s : State) (w : List Wild) (t : T) (s' : State) (w' : List Wild) (t' : T) (n : ℕ) (pause : Pause) : Type 0 where
  pub state_is : s' ≡ (span o n s w).state
  pub wild_is : w' ≡ (span o n s w).wild
  pub status_is : (span o n s w).state.status ≡ status_at pause
  pub last : EndsWith pause (λ i. (span o i s w).outputs) n
  pub running : (j : ℕ) → j < n → (span o j s w).state.status ≡ status.Running
  pub hears : Hears outlet.heard t (span o n s w).outputs (goes_on pause) t'
  pub still : (output : Output) → outlet.may t output → outlet.may t' output

-- the output of a step with this result, if any, was passed on to an outlet: private to the crate
pub record PassesOn {T : Type 0} (outlet : Ghosts T) (last : Stepped) (t t' : T) (pause : Pause) : Type 0 where
  pub status_is : status_at pause ≡ status_told last
  pub given : pause ≡ Refused → (output : Output) × (last ≡ stepped.Commit output)
  pub hears : Hears outlet.heard t (option_to_list (output_told last)) (goes_on pause) t'
  pub still : (output : Output) → outlet.may t output → outlet.may t' output

-- n steps of a run under a plan were taken, at most `most`, and fewer only if the run ended
pub record HasRun (o : Object) (strike : Option Strike) (w : List Wild) (s : State) (most n : ℕ) (pause : Pause) : Type 0 where
  pub state_is : s ≡ state_after o strike w n
  pub status_is : (state_after o strike w n).status ≡ status_at pause
  pub last : EndsWith pause (outputs_after o strike w) n
  pub few : n ≤ most
  pub all : pause ≡ Running → n ≡ most

-- what is fetched after whole instructions, given how they ended: private to the crate
abbrev pub fetched_where : Object → ℕ → Pause → Option Instr
fetched_where o pc Running = None
fetched_where o pc Refused = None
fetched_where o pc Done = instr_at o pc
fetched_where o pc Detected = instr_at o pc

-- the state after whole instructions, given how they ended: private to the crate
abbrev pub state_where : Object → ℕ → Pause → Bank → State
state_where o pc pause b = record (doing b pc pc (fetched_where o pc pause)) { status = status_at pause }
