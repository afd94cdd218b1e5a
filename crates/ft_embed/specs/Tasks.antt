-- Runs that continue across calls.
use Rattle.std.specs.Prelude.{◌≡◌, ℕ, ◌+◌, ◌<◌, ◌≤◌, List, [], ◌++◌, length, take, map, Option, Some, None, IfSome}
use Rattle.ft_isa.specs.declared.output.Output.{Output}
use Rattle.ft_isa.specs.declared.plan.Strike.{Strike}
use Rattle.ft_types.specs.declared.object.Object.{Object}
use Rattle.ft_types.specs.Spellable.{IsSpellable}
use Rattle.ft_typing.specs.Accepted.{IsAccepted}
use Rattle.ft_format.specs.Broken.{object_of}
use Rattle.ft_semantics.specs.Agrees.{Agrees}
use Rattle.ft_semantics.specs.State.{State}
use Rattle.ft_semantics.specs.Strike.{struck_before}
use Rattle.ft_semantics.specs.Run.{state_after, status_after, outputs_after}
use Rattle.ft_tolerance.specs.Soundness.{IsNeverDetected}
use Rattle.ft_embed.specs.declared.filling.CellOutput.{CellOutput}
use Rattle.ft_embed.specs.Outputs.{Ends, MayGoOn, cell_output}
use Rattle.ft_embed.specs.Verdicts.{IsAcceptedFile}

-- a run without answers to wild loads: the object, its strike, if any, and how many steps were taken
pub record TaskRun : Type 0 where
  pub object : Object
  pub strike : Option Strike
  pub taken : ℕ

-- the run of an object before its first step
abbrev pub begun : Object → TaskRun
begun o = record { object = o; strike = None; taken = 0 }

-- the strike was made at a step already taken, or is due before the next one
abbrev pub IsBy : ℕ → Strike → Type 0
IsBy taken x = x.step ≤ taken

-- the machine's state in this run of an accepted object, after the strike if that is due before the next step
pub record IsTask (r : TaskRun) (s : State) : Type 0 where
  pub spellable : IsSpellable r.object
  pub accepted : IsAccepted r.object
  pub by : IfSome r.strike (IsBy r.taken)
  pub state : s ≡ struck_before r.strike r.taken (state_after r.object r.strike [] r.taken)

-- n steps were taken after the first k, and their outputs are in an array
pub record GoesOn (o : Object) (strike : Option Strike) (k n count : ℕ) (new : List CellOutput) : Type 0 where
  pub more : List Output
  pub split : outputs_after o strike [] (k + n) ≡ outputs_after o strike [] k ++ more
  pub stand : take count new ≡ map cell_output more

-- a handle holds the run, before its first step, of the accepted object that bytes spell
pub record IsOpened (bytes : List ℕ) (held : Option TaskRun) : Type 0 where
  pub file : IsAcceptedFile bytes
  pub holds : held ≡ Some (begun (object_of bytes))

-- a call may take all `steps` steps, or as many as can still be counted: the run takes at most 2^64 - 1 in all
pub data IsLimit (steps taken most : ℕ) : Type 0 where
  all_steps : most ≡ steps → IsLimit steps taken most
  last_steps : taken + most ≡ 18446744073709551615 → most < steps → IsLimit steps taken most

-- the run could take n steps after the first k: before each the run had not stopped, and the earlier outputs left room
abbrev pub GoesOnUntil : Object → Option Strike → ℕ → ℕ → ℕ → Type 0
GoesOnUntil o strike k n room =
    (j : ℕ) → j < n → MayGoOn (status_after o strike [] (k + j)) (length (outputs_after o strike [] (k + j)))
    (length (outputs_after o strike [] k) + room)

-- a run continued: it took `taken` steps, none beyond its end, and their outputs are in an array. Its status says why
-- it took no more, and a single fault is masked or detected
pub record WentOn (r new : TaskRun) (status steps taken count : ℕ) (out : List CellOutput) : Type 0 where
  pub goes : new ≡ record { object = r.object; strike = r.strike; taken = r.taken + taken }
  pub within : count ≤ length out
  pub goes_on : GoesOn r.object r.strike r.taken taken count out
  pub most : ℕ
  pub limit : IsLimit steps r.taken most
  pub few : taken ≤ most
  pub no_room : length out ≡ 0 → taken ≡ 0
  pub before : GoesOnUntil r.object r.strike r.taken taken (length out)
  pub ends : Ends status most taken count (length out) (status_after r.object r.strike [] (r.taken + taken))
  pub agrees : Agrees (outputs_after r.object r.strike [] (r.taken + taken)) (status_after r.object r.strike [] (r.taken + taken))
      (outputs_after r.object None [] (r.taken + taken)) (status_after r.object None [] (r.taken + taken))
  pub sound : IsNeverDetected r.object []
