-- What a recovery returns and writes.
use Rattle.std.specs.Prelude.{◌≡◌, ℕ, List, length, Option, Some, None}
use Rattle.ft_edge.specs.Lines.{PutEnd, AllPut, PutFailed, NothingPut}
use Rattle.ft_isa.specs.declared.output.Output.{Output}
use Rattle.ft_isa.specs.declared.plan.Strike.{Strike}
use Rattle.ft_isa.specs.declared.plan.Wild.{Wild}
use Rattle.ft_types.specs.declared.object.Object.{Object}
use Rattle.ft_semantics.specs.declared.status.Status.{Status}
use Rattle.ft_semantics.specs.declared.status.Status.TheVariants as status
use Rattle.ft_semantics.specs.Run.{outputs_after, status_after}
use Rattle.ft_machine.specs.Drives.{output_lines}
use Rattle.ft_recover.specs.declared.recover_end.RecoverEnd.{RecoverEnd}
use Rattle.ft_recover.specs.declared.recover_end.RecoverEnd.TheVariants.{Done, OutOfSteps, WriteFault, NoMemory}

-- how many outputs a run with this status has committed, if it is detected
abbrev pub count_at : Status → List Output → Option ℕ
count_at status.Running outputs = None
count_at status.Done outputs = None
count_at status.Detected outputs = Some (length outputs)

-- the number of outputs that the run under a plan has committed after n steps, if it is detected then
abbrev pub restart_output : Object → Option Strike → List Wild → ℕ → Option ℕ
restart_output o strike w n = count_at (status_after o strike w n) (outputs_after o strike w n)

-- the lines of all outputs of the run without a fault after n steps, one for each
abbrev pub whole_output : Object → List Wild → ℕ → List (List ℕ)
whole_output o w n = output_lines o (outputs_after o None w n)

-- the end of a recovery is that of the run without a fault, which has this status; a failed write and running out of
-- memory say nothing about it
abbrev pub EndsAs : RecoverEnd → Status → Type 0
EndsAs (Done again) s = s ≡ status.Done
EndsAs (OutOfSteps again) s = s ≡ status.Running
EndsAs WriteFault s = Unit {0}
EndsAs NoMemory s = Unit {0}

-- a recovery that finishes reports this number of outputs left out, or `None` if there was no second run
abbrev pub Restarts : RecoverEnd → Option ℕ → Type 0
Restarts (Done again) restart = again ≡ restart
Restarts (OutOfSteps again) restart = again ≡ restart
Restarts WriteFault restart = Unit {0}
Restarts NoMemory restart = Unit {0}

-- how the lines of a recovery with this end were written
abbrev pub put_end : RecoverEnd → PutEnd
put_end (Done again) = AllPut
put_end (OutOfSteps again) = AllPut
put_end WriteFault = PutFailed
put_end NoMemory = NothingPut
