-- How the parts of a command end: private to the tool.
use Rattle.std.specs.Prelude.{◌≡◌, ℕ, Bool, true, false, Option, None}
use Rattle.ft_edge.specs.Logs.{SinkLog}
use Rattle.ft_machine.specs.declared.run.RunEnd.{RunEnd}
use Rattle.ft_machine.specs.declared.run.RunEnd.TheVariants as runs
use Rattle.ft_recover.specs.declared.recover_end.RecoverEnd.{RecoverEnd}
use Rattle.ft_recover.specs.declared.recover_end.RecoverEnd.TheVariants as recoveries
use Rattle.ft_tool.specs.Replies.{Answer}
use Rattle.ft_tool.specs.Answers.{Concludes, BreaksOff}
use Rattle.ft_tool.specs.declared.ending.Ending.{Ending}
use Rattle.ft_tool.specs.declared.ending.Ending.TheVariants.{Done, Detected, Usage, LoadFailed, WriteFailed, NoMemory, SourceRefused, ObjectRefused, NotAccepted, OutOfSteps, Corrupt, ListRefused, TextRefused, LinkRefused}

-- how a part of a command ends
pub data PartEnd : Type 0 where
  -- it wrote an answer with this status
  Concluded : ℕ → PartEnd
  -- a load or a take failed
  Unloaded : PartEnd
  -- a put of its answer failed
  Unwritten : PartEnd
  -- memory ran out
  Unfinished : PartEnd

abbrev pub part_end : Ending → PartEnd
part_end Done = Concluded 0
part_end Detected = Concluded 1
part_end Usage = Concluded 2
part_end LoadFailed = Unloaded
part_end WriteFailed = Unwritten
part_end NoMemory = Unfinished
part_end SourceRefused = Concluded 6
part_end ObjectRefused = Concluded 7
part_end NotAccepted = Concluded 8
part_end OutOfSteps = Concluded 9
part_end Corrupt = Concluded 10
part_end ListRefused = Concluded 11
part_end TextRefused = Concluded 12
part_end LinkRefused = Concluded 13

-- whether a load or a take failed, or memory ran out
abbrev pub is_early_end : PartEnd → Bool
is_early_end (Concluded status) = false
is_early_end Unloaded = true
is_early_end Unwritten = false
is_early_end Unfinished = true

abbrev pub ends_early : Ending → Bool
ends_early e = is_early_end (part_end e)

-- what such an end says about the answer, the sink's record, and a failed load
abbrev pub EndsSo : PartEnd → (Answer → Type 0) → SinkLog → SinkLog → Type 0 → Type 0
EndsSo (Concluded status) Is old new Load = Concludes Is status old new
EndsSo Unloaded Is old new Load = (new ≡ old) × Load
EndsSo Unwritten Is old new Load = BreaksOff Is old new
EndsSo Unfinished Is old new Load = new ≡ old

-- what an ending says about them
abbrev pub Ends : Ending → (Answer → Type 0) → SinkLog → SinkLog → Type 0 → Type 0
Ends e Is old new Load = EndsSo (part_end e) Is old new Load

-- how a command ends, given how its run ended
abbrev pub ending_of_run : RunEnd → Ending
ending_of_run runs.Done = Done
ending_of_run runs.Detected = Detected
ending_of_run runs.OutOfSteps = OutOfSteps
ending_of_run runs.WriteFault = WriteFailed

-- the restart that a recovery reports
abbrev pub again_of : RecoverEnd → Option ℕ
again_of (recoveries.Done again) = again
again_of (recoveries.OutOfSteps again) = again
again_of recoveries.WriteFault = None
again_of recoveries.NoMemory = None

-- how a command ends, given how its recovery ended
abbrev pub ending_of_recovery : RecoverEnd → Ending
ending_of_recovery (recoveries.Done again) = Done
ending_of_recovery (recoveries.OutOfSteps again) = OutOfSteps
ending_of_recovery recoveries.WriteFault = WriteFailed
ending_of_recovery recoveries.NoMemory = NoMemory
