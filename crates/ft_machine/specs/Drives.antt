-- What driving a machine returns and writes.
use Rattle.std.specs.Prelude.{◌≡◌, ℕ, ◌+◌, ◌≤◌, ◌<◌, Bool, true, false, List, [], length, map, Option}
use Rattle.ft_edge.specs.Told.{append_told}
use Rattle.ft_edge.specs.Lines.{PutEnd, AllPut, PutFailed, Puts}
use Rattle.ft_edge.specs.Logs.{SinkLog}
use Rattle.ft_edge.proofs.Lines.{lines_none}
use Rattle.ft_edge.proofs.Appended.{told_none}
use Rattle.ft_isa.specs.declared.output.Output.{Output}
use Rattle.ft_isa.specs.declared.plan.Strike.{Strike}
use Rattle.ft_isa.specs.declared.plan.Wild.{Wild}
use Rattle.ft_types.specs.declared.object.Object.{Object}
use Rattle.ft_semantics.specs.State.{State}
use Rattle.ft_semantics.specs.Run.{state_after, outputs_after}
use Rattle.ft_types.specs.Texts.{line_at}
use Rattle.ft_semantics.specs.declared.status.Status.{Status}
use Rattle.ft_semantics.specs.declared.status.Status.TheVariants as status
use Rattle.ft_machine.specs.Goes.{GivesLast}
use Rattle.ft_machine.specs.declared.run.RunEnd.{RunEnd}
use Rattle.ft_machine.specs.declared.run.RunEnd.TheVariants.{Done, Detected, OutOfSteps, WriteFault}
use Rattle.ft_machine.specs.declared.stepped.Pause.{Pause}
use Rattle.ft_machine.specs.declared.stepped.Pause.TheVariants as pause

-- a run with this end has this status
abbrev pub EndsAs : RunEnd → Status → Type 0
EndsAs Done s = s ≡ status.Done
EndsAs Detected s = s ≡ status.Detected
EndsAs OutOfSteps s = s ≡ status.Running
EndsAs WriteFault s = Unit {0}

-- the lines of outputs, one for each
abbrev pub output_lines : Object → List Output → List (List ℕ)
output_lines o outputs = map (line_at o) outputs

-- how the puts ended, in a run with this end
abbrev pub put_end : RunEnd → PutEnd
put_end Done = AllPut
put_end Detected = AllPut
put_end OutOfSteps = AllPut
put_end WriteFault = PutFailed

-- the machine is in the run's state after k steps, and the lines of the outputs so far were put, each as one piece
pub record HasTaken (o : Object) (strike : Option Strike) (wild : List Wild) (k : ℕ) (state : State) (old new : SinkLog) : Type 0 where
  pub state_is : state ≡ state_after o strike wild k
  pub pieces : new.pieces ≡ append_told old.pieces (output_lines o (outputs_after o strike wild k))

-- where a run stops: after n steps, or after the step that gave the output whose put failed
abbrev pub Stops : RunEnd → (ℕ → Type 0) → (ℕ → List Output) → ℕ → Type 0
Stops Done At outputs n = At n
Stops Detected At outputs n = At n
Stops OutOfSteps At outputs n = At n
Stops WriteFault At outputs n = (k : ℕ) × ((k ≤ n) × (At k × GivesLast outputs k))

-- the result of a drive, given how its steps ended
abbrev pub run_end : Pause → RunEnd
run_end pause.Running = OutOfSteps
run_end pause.Done = Done
run_end pause.Detected = Detected
run_end pause.Refused = WriteFault

-- an output goes to a cell
abbrev pub IsOfCell : Object → Output → Type 0
IsOfCell o output = (1048576 ≤ output.addr) × (output.addr < 1048576 + length o.cells)

-- how the puts ended, given whether the run goes on: if it does not, a put failed
abbrev pub end_of_going : Bool → PutEnd
end_of_going true = AllPut
end_of_going false = PutFailed

-- the lines of outputs were put, each as one piece; if a put failed, it was the last one
pub record PutsOutputs (o : Object) (outputs : List Output) (goes : Bool) (old new : SinkLog) : Type 0 where
  pub lines : Puts (end_of_going goes) (output_lines o outputs) old new
  pub pieces : new.pieces ≡ append_told old.pieces (output_lines o outputs)

-- no outputs
pub outputs_none : (o : Object) (log : SinkLog) → PutsOutputs o [] true log log
outputs_none o log = record { lines = lines_none log; pieces = told_none log.pieces }
