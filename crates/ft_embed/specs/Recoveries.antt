-- Recoveries whose outputs go into the caller's array.
use Rattle.std.specs.Prelude.{◌≡◌, ◌≢◌, ℕ, ◌<◌, ◌≤◌, List, length, take, map, Option, Some, None}
use Rattle.ft_isa.specs.declared.plan.Strike.{Strike}
use Rattle.ft_isa.specs.declared.plan.Wild.{Wild}
use Rattle.ft_types.specs.declared.object.Object.{Object}
use Rattle.ft_semantics.specs.declared.status.Status.TheVariants.{Running}
use Rattle.ft_semantics.specs.Run.{outputs_after, status_after}
use Rattle.ft_tolerance.specs.Soundness.{IsNeverDetected}
use Rattle.ft_format.specs.Broken.{object_of}
use Rattle.ft_recover.specs.Recovery.{restart_output}
use Rattle.ft_embed.specs.declared.filling.CellOutput.{CellOutput}
use Rattle.ft_embed.specs.Outputs.{cell_output, Ends, GoesUntil, SameAfter}
use Rattle.ft_embed.specs.Plans.{IsFault, AreAnswers}
use Rattle.ft_embed.specs.Verdicts.{IsAcceptedFile}

-- what is reported about a restart: 0 and 0 if there was none, and 1 and n if there was one after n outputs
abbrev pub IsRestart : Option ℕ → ℕ → ℕ → Type 0
IsRestart None restarts again = (restarts ≡ 0) × (again ≡ 0)
IsRestart (Some n) restarts again = (restarts ≡ 1) × (again ≡ n)

-- a run under a plan took all steps, or as many as it could before it stopped or ran out of room for outputs, and no
-- more. It was restarted if it was detected, and the restart is reported
pub record FirstRun (o : Object) (strike : Option Strike) (w : List Wild) (steps room restarts again : ℕ) : Type 0 where
  pub taken : ℕ
  pub few : taken ≤ steps
  pub within : length (outputs_after o strike w taken) ≤ room
  pub all : status_after o strike w taken ≡ Running → length (outputs_after o strike w taken) < room → taken ≡ steps
  pub before : GoesUntil o strike w taken room
  pub told : IsRestart (restart_output o strike w taken) restarts again

-- a program was run under a plan, and restarted without the strike if the run was detected. The outputs in the array
-- and the way the run ended are those of the run without the strike
pub record RecoversInto (o : Object) (strike : Option Strike) (w : List Wild) (steps status taken count restarts again : ℕ) (new : List CellOutput) : Type 0 where
  pub few : taken ≤ steps
  pub within : count ≤ length new
  pub outputs : take count new ≡ map cell_output (outputs_after o None w taken)
  pub ends : Ends status steps taken count (length new) (status_after o None w taken)
  pub all : status ≢ 14 → SameAfter o None w taken steps
  pub before : GoesUntil o None w taken (length new)
  pub restart : status ≢ 14 → IsRestart (restart_output o strike w steps) restarts again
  pub first : FirstRun o strike w steps (length new) restarts again

-- the accepted object that bytes spell was recovered under the plan that two texts spell
pub record RecoversFile (bytes fault wild : List ℕ) (steps status taken count restarts again : ℕ) (new : List CellOutput) : Type 0 where
  pub file : IsAcceptedFile bytes
  pub strike : Option Strike
  pub is_fault : IsFault fault strike
  pub answers : List Wild
  pub are_answers : AreAnswers wild answers
  pub recovers : RecoversInto (object_of bytes) strike answers steps status taken count restarts again new
  pub sound : IsNeverDetected (object_of bytes) answers
