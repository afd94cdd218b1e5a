-- The state of the machine that a caller's words stand for: every bit pattern stands for one.
use Rattle.std.specs.Prelude.{◌≡◌, ℕ, zero, suc, List, Option, None, ◌⊎◌}
use Rattle.ft_isa.specs.declared.instr.Instr.{Instr}
use Rattle.ft_types.specs.declared.object.Object.{Object}
use Rattle.ft_types.specs.Objects.{instr_at}
use Rattle.ft_semantics.specs.declared.status.Status.{Status}
use Rattle.ft_semantics.specs.declared.status.Status.TheVariants as status
use Rattle.ft_semantics.specs.State.{State}
use Rattle.ft_machine.specs.Arrays.{cells_of}
use Rattle.ft_machine.specs.Plain.{registers_in}
use Rattle.ft_flight.specs.declared.state.FlightState.{FlightState}
use Rattle.ft_flight.specs.Rings.{pending_of}

-- 0 stands for a running machine, 1 for one that is done, and any other number for one that was detected
abbrev pub status_of : ℕ → Status
status_of zero = status.Running
status_of (suc zero) = status.Done
status_of (suc (suc n)) = status.Detected

-- the state of an object's run
abbrev pub state_in : Object → FlightState → List ℕ → State
state_in o s cells = record {
  registers = registers_in s.words s.colours;
  d = s.d;
  pc_green = s.pc_green;
  pc_blue = s.pc_blue;
  queue = pending_of s.queue;
  cells = cells_of cells;
  fetched = instr_at o s.fetched;
  status = status_of s.status;
}

-- nothing is fetched, or what is at the green counter, or what was fetched before: private to the crate
abbrev pub IsFetchedFrom : Object → Option Instr → Option Instr → ℕ → Type 0
IsFetchedFrom o before fetched green = (fetched ≡ None) ⊎ ((fetched ≡ instr_at o green) ⊎ (fetched ≡ before))
