-- Outputs in the caller's array.
use Rattle.std.specs.Prelude.{◌≡◌, ◌≢◌, ℕ, ◌+◌, ◌-◌, ◌<◌, ◌≤◌, List, ◌++◌, length, take, map, Option, None}
use Rattle.ft_isa.specs.declared.output.Output.{Output}
use Rattle.ft_isa.specs.declared.plan.Strike.{Strike}
use Rattle.ft_isa.specs.declared.plan.Wild.{Wild}
use Rattle.ft_types.specs.declared.object.Object.{Object}
use Rattle.ft_semantics.specs.declared.status.Status.{Status}
use Rattle.ft_semantics.specs.declared.status.Status.TheVariants.{Running, Done, Detected}
use Rattle.ft_semantics.specs.State.{State}
use Rattle.ft_semantics.specs.Agrees.{Agrees}
use Rattle.ft_semantics.specs.Run.{outputs_after, status_after}
use Rattle.ft_machine.specs.Spans.{span}
use Rattle.ft_machine.specs.declared.stepped.Stepped.{Stepped}
use Rattle.ft_machine.specs.declared.stepped.Stepped.TheVariants as stepped
use Rattle.ft_tolerance.specs.Soundness.{IsNeverDetected}
use Rattle.ft_format.specs.Broken.{object_of}
use Rattle.ft_embed.specs.Verdicts.{IsAcceptedFile}
use Rattle.ft_embed.specs.Plans.{IsFault, AreAnswers}
use Rattle.ft_embed.specs.declared.answer.Ran.{Ran}
use Rattle.ft_embed.specs.declared.filling.CellOutput.{CellOutput}

-- an output as C sees it: the number of its cell, and its word
abbrev pub cell_output : Output → CellOutput
cell_output x = record { cell = x.addr - 1048576; value = x.value }

-- if a step commits an output, its address is not below the first cell's: private to the code
abbrev pub GoesToCell : Stepped → Type 0
GoesToCell stepped.Quiet = Unit {0}
GoesToCell (stepped.Commit output) = 1048576 ≤ output.addr
GoesToCell stepped.Done = Unit {0}
GoesToCell stepped.Detected = Unit {0}

-- a run with this status and `count` outputs in an array with this much room may take a step: it has not stopped, and
-- the array is not full
pub record MayGoOn (status : Status) (count room : ℕ) : Type 0 where
  pub running : status ≡ Running
  pub free : count < room

-- n steps were taken from a state, each while the machine was running and there was room for one more output, and their
-- outputs are in an array after the earlier ones: private to the code
pub record Fills (o : Object) (s : State) (w : List Wild) (n : ℕ) (s' : State) (w' : List Wild) (from count : ℕ) (old new : List CellOutput) : Type 0 where
  pub state_is : s' ≡ (span o n s w).state
  pub wild_is : w' ≡ (span o n s w).wild
  pub outputs : take count new ≡ take from old ++ map cell_output (span o n s w).outputs
  pub count_is : count ≡ from + length (span o n s w).outputs
  pub before : (j : ℕ) → j < n → MayGoOn (span o j s w).state.status (from + length (span o j s w).outputs) (length old)

-- the run could take each of `taken` steps: before each it had not stopped and the array had room. So no step was taken
-- after the end of the run or after the array was full
abbrev pub GoesUntil : Object → Option Strike → List Wild → ℕ → ℕ → Type 0
GoesUntil o strike w taken room = (n : ℕ) → n < taken →
    MayGoOn (status_after o strike w n) (length (outputs_after o strike w n)) room

-- a run under a plan took `taken` of at most `steps` steps: it has this status, and its outputs are in the array; if it
-- is still running, it took all steps or the array is full: private to the code
pub record Takes (o : Object) (strike : Option Strike) (w : List Wild) (steps taken : ℕ) (status : Status) (count : ℕ) (new : List CellOutput) : Type 0 where
  pub few : taken ≤ steps
  pub within : count ≤ length new
  pub outputs : take count new ≡ map cell_output (outputs_after o strike w taken)
  pub status_is : status ≡ status_after o strike w taken
  pub all : status ≡ Running → count < length new → taken ≡ steps
  pub before : GoesUntil o strike w taken (length new)

-- why a run of at most `steps` steps took no more: it is done; it is detected; it took them all; or the array is full
pub data Ends (status steps taken count room : ℕ) (s : Status) : Type 0 where
  done : status ≡ 0 → s ≡ Done → Ends status steps taken count room s
  detected : status ≡ 1 → s ≡ Detected → Ends status steps taken count room s
  cut : status ≡ 9 → s ≡ Running → taken ≡ steps → Ends status steps taken count room s
  full : status ≡ 14 → s ≡ Running → count ≡ room → taken < steps → Ends status steps taken count room s

-- after n steps and after m steps, a run under a plan has the same outputs and the same status
pub record SameAfter (o : Object) (strike : Option Strike) (w : List Wild) (n m : ℕ) : Type 0 where
  pub outputs : outputs_after o strike w n ≡ outputs_after o strike w m
  pub status : status_after o strike w n ≡ status_after o strike w m

-- a run under a plan took `taken` of at most `steps` steps, none beyond its end. Its outputs are in the array, and a
-- single fault is masked or detected. Unless the array was full, its outputs and its status are those after all steps
pub record RunsInto (o : Object) (strike : Option Strike) (w : List Wild) (steps status taken count : ℕ) (new : List CellOutput) : Type 0 where
  pub few : taken ≤ steps
  pub within : count ≤ length new
  pub outputs : take count new ≡ map cell_output (outputs_after o strike w taken)
  pub ends : Ends status steps taken count (length new) (status_after o strike w taken)
  pub agrees : Agrees (outputs_after o strike w taken) (status_after o strike w taken) (outputs_after o None w taken) (status_after o None w taken)
  pub all : status ≢ 14 → SameAfter o strike w taken steps
  pub before : GoesUntil o strike w taken (length new)

-- what is reported if nothing was run
abbrev pub not_begun : Ran
not_begun = record { steps = 0; count = 0; restarts = 0; again = 0 }

-- what is reported about a run that was not restarted
abbrev pub IsOnce : Ran → Type 0
IsOnce ran = (ran.restarts ≡ 0) × (ran.again ≡ 0)

-- the accepted object that bytes spell was run under the plan that two texts spell
pub record RunsFile (bytes fault wild : List ℕ) (steps status taken count : ℕ) (new : List CellOutput) : Type 0 where
  pub file : IsAcceptedFile bytes
  pub strike : Option Strike
  pub is_fault : IsFault fault strike
  pub answers : List Wild
  pub are_answers : AreAnswers wild answers
  pub runs : RunsInto (object_of bytes) strike answers steps status taken count new
  pub sound : IsNeverDetected (object_of bytes) answers
