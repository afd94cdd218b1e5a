-- The result and the effect of a call that takes steps up to the first that is not quiet.
use Rattle.std.specs.Prelude.{◌≡◌, ℕ, ◌≤◌, ◌<◌, Bool, true, false, List, [], Option, Some, None}
use Rattle.std.specs.Option.{option_to_list}
use Rattle.ft_isa.specs.declared.output.Output.{Output}
use Rattle.ft_isa.specs.declared.plan.Wild.{Wild}
use Rattle.ft_types.specs.declared.object.Object.{Object}
use Rattle.ft_semantics.specs.declared.status.Status.{Status}
use Rattle.ft_semantics.specs.declared.status.Status.TheVariants as status
use Rattle.ft_semantics.specs.State.{State}
use Rattle.ft_semantics.specs.Run.{Ran}
use Rattle.ft_machine.specs.Spans.{span}
use Rattle.ft_machine.specs.declared.stepped.Stepped.{Stepped}
use Rattle.ft_machine.specs.declared.stepped.Pause.{Pause}
use Rattle.ft_machine.specs.declared.stepped.Pause.TheVariants as pause
use Rattle.ft_machine.specs.declared.stepped.Stepped.TheVariants.{Quiet, Commit, Done, Detected}

-- the output of a step with this result
abbrev pub output_told : Stepped → Option Output
output_told Quiet = None
output_told (Commit output) = Some output
output_told Done = None
output_told Detected = None

-- the machine's status after a step with this result
abbrev pub status_told : Stepped → Status
status_told Quiet = status.Running
status_told (Commit output) = status.Running
status_told Done = status.Done
status_told Detected = status.Detected

-- all steps were taken, or the last one taken is not quiet
abbrev pub IsEnough : Stepped → ℕ → ℕ → Type 0
IsEnough Quiet taken most = taken ≡ most
IsEnough (Commit output) taken most = (0 < taken) × (taken ≤ most)
IsEnough Done taken most = (0 < taken) × (taken ≤ most)
IsEnough Detected taken most = (0 < taken) × (taken ≤ most)

-- the machine is still running, and nothing was committed so far
pub record IsQuiet (r : Ran) : Type 0 where
  pub running : r.state.status ≡ status.Running
  pub nothing : r.outputs ≡ []

-- `taken` of at most `most` steps were taken from a state: those before the last one were quiet, and this is what the
-- last one did
pub record Advances (o : Object) (s : State) (w : List Wild) (s' : State) (w' : List Wild) (most taken : ℕ) (last : Stepped) : Type 0 where
  pub enough : IsEnough last taken most
  pub state_is : s' ≡ (span o taken s w).state
  pub wild_is : w' ≡ (span o taken s w).wild
  pub outputs : (span o taken s w).outputs ≡ option_to_list (output_told last)
  pub status_is : (span o taken s w).state.status ≡ status_told last
  pub before : (j : ℕ) → j < taken → IsQuiet (span o j s w)

-- an outlet that goes on took no output and keeps what it held; one that does not go on holds the one output that it
-- took: private to the crate
abbrev pub IsFirst : Option Output → List Output → Bool → Option Output → Type 0
IsFirst old outputs true new = (outputs ≡ []) × (new ≡ old)
IsFirst old outputs false new = option_to_list new ≡ outputs

-- what the last step did, given how the steps ended and this output: private to the crate
abbrev pub last_of : Pause → Option Output → Stepped
last_of pause.Running output = Quiet
last_of pause.Done output = Done
last_of pause.Detected output = Detected
last_of pause.Refused (Some output) = Commit output
last_of pause.Refused None = Quiet
