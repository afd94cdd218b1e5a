-- What an instruction does to a bank, and the rest of its step: the counters, what is fetched, and the status.
use Rattle.std.specs.Prelude.{◌≡◌, ℕ, Bool, true, false, List, Option, Some, None}
use Rattle.ft_isa.specs.declared.output.Output.{Output}
use Rattle.ft_isa.specs.declared.instr.Instr.{Instr}
use Rattle.ft_isa.specs.declared.plan.Wild.{Wild}
use Rattle.ft_semantics.specs.declared.status.Status.TheVariants as status
use Rattle.ft_semantics.specs.State.{State}
use Rattle.ft_semantics.specs.Step.{Stepping, next}
use Rattle.ft_machine.specs.Banks.{Bank}
use Rattle.ft_machine.specs.declared.bank.Effect.{Effect}
use Rattle.ft_machine.specs.declared.bank.Effect.TheVariants.{On, To, Commit, Done, Detected}
use Rattle.ft_machine.specs.declared.stepped.Stepped.{Stepped}
use Rattle.ft_machine.specs.declared.stepped.Stepped.TheVariants as stepped

-- the effect of a load, given whether the machine goes on
abbrev pub went : Bool → Effect
went true = On
went false = Detected

-- the running state with this bank, these counters and this fetched instruction
abbrev pub doing : Bank → ℕ → ℕ → Option Instr → State
doing b green blue f = record {
  registers = b.registers;
  d = b.d;
  pc_green = green;
  pc_blue = blue;
  queue = b.queue;
  cells = b.cells;
  fetched = f;
  status = status.Running;
}

-- the state after an effect
abbrev pub followed : Effect → Bank → ℕ → ℕ → Option Instr → State
followed On b green blue f = doing b (next green) (next blue) None
followed (To target) b green blue f = doing b target target None
followed (Commit output) b green blue f = doing b (next green) (next blue) None
followed Done b green blue f = record (doing b green blue f) { status = status.Done }
followed Detected b green blue f = record (doing b green blue f) { status = status.Detected }

-- the output of an effect
abbrev pub put_out : Effect → Option Output
put_out On = None
put_out (To target) = None
put_out (Commit output) = Some output
put_out Done = None
put_out Detected = None

-- the result of a step with this effect
abbrev pub told_effect : Effect → Stepped
told_effect On = stepped.Quiet
told_effect (To target) = stepped.Quiet
told_effect (Commit output) = stepped.Commit output
told_effect Done = stepped.Done
told_effect Detected = stepped.Detected

-- the step makes this change to the bank and has this effect, whatever the counters hold
pub record Does (t : State → List Wild → Stepping) (old new : Bank) (effect : Effect) (wild left : List Wild) : Type 0 where
  pub does : (green blue : ℕ) (f : Option Instr) → t (doing old green blue f) wild ≡ record { state = followed effect new green blue f; wild = left; output = put_out effect }

-- likewise for a step that uses no answer to a wild load, whatever answers are left
pub record DoesQuietly (t : State → List Wild → Stepping) (old new : Bank) (effect : Effect) : Type 0 where
  pub does : (green blue : ℕ) (f : Option Instr) (wild : List Wild) → t (doing old green blue f) wild ≡ record { state = followed effect new green blue f; wild = wild; output = put_out effect }

-- the bank of a state
abbrev pub bank_of : State → Bank
bank_of s = record { registers = s.registers; d = s.d; queue = s.queue; cells = s.cells }
