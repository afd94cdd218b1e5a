-- What the machine's calls return.
use Rattle.std.specs.Prelude.{◌≡◌, List, [], ◌∷◌, Option, Some, None}
use Rattle.ft_isa.specs.declared.output.Output.{Output}
use Rattle.ft_isa.specs.declared.plan.Wild.{Wild}
use Rattle.ft_isa.specs.declared.plan.Wild.TheVariants.{Stop}
use Rattle.ft_semantics.specs.declared.status.Status.{Status}
use Rattle.ft_semantics.specs.declared.status.Status.TheVariants as status
use Rattle.ft_semantics.specs.State.{State}
use Rattle.ft_semantics.specs.Step.{Stepping}
use Rattle.ft_machine.specs.declared.stepped.Stepped.{Stepped}
use Rattle.ft_machine.specs.declared.stepped.Stepped.TheVariants.{Quiet, Commit, Done, Detected}

-- the next answer to a wild load: the first that is left, or a stop
abbrev pub next_answer : List Wild → Wild
next_answer [] = Stop
next_answer (answer ∷ rest) = answer

-- the result of a step without an output, given the status after it
abbrev pub told_status : Status → Stepped
told_status status.Running = Quiet
told_status status.Done = Done
told_status status.Detected = Detected

-- the result of a step, given its output and the status after it
abbrev pub told_output : Option Output → Status → Stepped
told_output (Some output) s = Commit output
told_output None s = told_status s

-- the result of a step: its output if it has one, otherwise the machine's status after it
abbrev pub told : Stepping → Stepped
told t = told_output t.output t.state.status

-- a call took this step: the state after it, the answers left and the call's result are the step's
pub record Takes (t : Stepping) (state : State) (wild : List Wild) (answer : Stepped) : Type 0 where
  pub state_is : state ≡ t.state
  pub wild_is : wild ≡ t.wild
  pub answer_is : answer ≡ told t

-- a call took this step, which uses no answer to a wild load, whatever answers are left
pub record TakesQuietly (t : List Wild → Stepping) (state : State) (answer : Stepped) : Type 0 where
  pub takes : (wild : List Wild) → Takes (t wild) state wild answer
