-- Steps from any state that a caller's words stand for, and their outputs in the caller's array.
use Rattle.std.specs.Prelude.{◌≡◌, ℕ, ◌+◌, ◌-◌, ◌<◌, ◌≤◌, List, [], length, take, drop, map, max}
use Rattle.ft_isa.specs.declared.output.Output.{Output}
use Rattle.ft_isa.specs.declared.plan.Wild.{Wild}
use Rattle.ft_types.specs.declared.object.Object.{Object}
use Rattle.ft_semantics.specs.declared.status.Status.{Status}
use Rattle.ft_semantics.specs.declared.status.Status.TheVariants as status
use Rattle.ft_semantics.specs.State.{State}
use Rattle.ft_machine.specs.Spans.{span}
use Rattle.ft_flight.specs.declared.state.FlightState.{FlightState}
use Rattle.ft_flight.specs.declared.flown.CellOutput.{CellOutput}
use Rattle.ft_flight.specs.declared.flown.FlightEnd.{FlightEnd}
use Rattle.ft_flight.specs.declared.flown.FlightEnd.TheVariants as end
use Rattle.ft_flight.specs.States.{state_in}

-- an output as C sees it: the number of its cell, and its word
abbrev pub cell_output : Output → CellOutput
cell_output x = record { cell = x.addr - 1048576; value = x.value }

-- the outputs of n steps from a state, and its status after them
abbrev pub outputs_from : Object → State → ℕ → List Output
outputs_from o s n = (span o n s []).outputs

abbrev pub status_from : Object → State → ℕ → Status
status_from o s n = (span o n s []).state.status

-- a machine with this status and this many outputs in an array of this length may take a step: it has not stopped, and the array
-- has room
pub record MayGo (s : Status) (count room : ℕ) : Type 0 where
  pub running : s ≡ status.Running
  pub free : count < room

-- n steps were taken from a state, each while the machine was running and the array had room; the array begins with their outputs
-- but the first `skip`
pub record Fills (o : Object) (s s' : State) (n skip seen count : ℕ) (new : List CellOutput) : Type 0 where
  pub state_is : s' ≡ (span o n s []).state
  pub seen_is : seen ≡ length (outputs_from o s n)
  pub count_is : count ≡ length (drop skip (outputs_from o s n))
  pub outputs : take count new ≡ map cell_output (drop skip (outputs_from o s n))
  pub before : (j : ℕ) → j < n → MayGo (status_from o s j) (length (drop skip (outputs_from o s j))) (length new)

-- a call may take all `steps` steps, or as many as can still be counted
pub data IsLimit (steps taken seen most : ℕ) : Type 0 where
  all_steps : most ≡ steps → IsLimit steps taken seen most
  last_steps : most ≤ steps → taken + most ≡ 18446744073709551615 → IsLimit steps taken seen most
  last_outputs : most ≤ steps → seen + most ≡ 18446744073709551615 → IsLimit steps taken seen most

-- why at most `most` steps were taken and no more: the machine is done; it was detected; all were taken; or the array is full
pub data Ends (e : FlightEnd) (most taken count room : ℕ) (s : Status) : Type 0 where
  done : e ≡ end.Done → s ≡ status.Done → Ends e most taken count room s
  detected : e ≡ end.Detected → s ≡ status.Detected → Ends e most taken count room s
  cut : e ≡ end.Cut → s ≡ status.Running → taken ≡ most → Ends e most taken count room s
  full : e ≡ end.Full → s ≡ status.Running → count ≡ room → taken < most → Ends e most taken count room s

-- A call took n steps from the state that any words stand for. The words then stand for the machine's state after these steps, and
-- the array begins with their outputs but those that an earlier attempt handed out.
pub record Took (o : Object) (s : FlightState) (cells : List ℕ) (s' : FlightState) (cells' : List ℕ) (steps n count : ℕ) (e : FlightEnd) (new : List CellOutput) : Type 0 where
  pub fills : Fills o (state_in o s cells) (state_in o s' cells') n (s.handed - s.seen) (s'.seen - s.seen) count new
  pub steps_is : s'.steps ≡ s.steps + n
  pub seen_is : s'.seen ≡ s.seen + length (outputs_from o (state_in o s cells) n)
  pub handed_is : s'.handed ≡ max s.handed s'.seen
  pub most : ℕ
  pub limit : IsLimit steps s.steps s.seen most
  pub few : n ≤ most
  pub within : count ≤ length new
  pub ends : Ends e most n count (length new) (status_from o (state_in o s cells) n)
