-- What typing promises for runs without a fault.
use Rattle.std.specs.Prelude.{◌≡◌, ◌≢◌, ℕ, ◌<◌, true, false, List, length, None, Some}
use Rattle.ft_isa.specs.declared.colour.Colour.{Colour}
use Rattle.ft_isa.specs.declared.colour.Colour.TheVariants.{Green, Blue}
use Rattle.ft_isa.specs.declared.reg.Reg.{Reg}
use Rattle.ft_isa.specs.declared.instr.Instr.TheVariants.{Ld, St}
use Rattle.ft_isa.specs.declared.plan.Wild.{Wild}
use Rattle.ft_types.specs.declared.object.Object.{Object}
use Rattle.ft_semantics.specs.declared.status.Status.TheVariants.{Running, Done, Detected}
use Rattle.ft_semantics.specs.State.{State, word}
use Rattle.ft_semantics.specs.Step.{step, is_code, is_wild}
use Rattle.ft_semantics.specs.Run.{state_after, wild_after, status_after}
use Rattle.ft_tolerance.specs.TypedState.{Place, next_place, place, Fits, IsPlace}

-- the next step of a running state makes no fetch outside the code, no wild load, no green store into a full queue and
-- no blue store from an empty one
pub record IsUntroubled (o : Object) (s : State) : Type 0 where
  pub fetch : s.fetched ≡ None → (s.pc_green ≡ s.pc_blue) × (is_code o s.pc_green ≡ true)
  pub load : (c : Colour) (rd rs : Reg) → s.fetched ≡ Some (Ld c rd rs) → is_wild c s (word s rs) ≡ false
  pub store_green : (rd rs : Reg) → s.fetched ≡ Some (St Green rd rs) → length s.queue < 8
  pub store_blue : (rd rs : Reg) → s.fetched ≡ Some (St Blue rd rs) → 0 < length s.queue

-- a state is done, or it is running and fits a place of the object
pub data EndsOrFits (o : Object) (p : Place) (s : State) : Type 0 where
  ended : s.status ≡ Done → EndsOrFits o p s
  running : s.status ≡ Running → IsPlace o p → Fits o p s → EndsOrFits o p s

-- the step from a running state at a place is untroubled, takes no answer to a wild load, and leads to the end or to a
-- state that fits the next place
pub record Keeps (o : Object) (p : Place) (s : State) (w : List Wild) : Type 0 where
  pub untroubled : IsUntroubled o s
  pub wild : (step o s w).wild ≡ w
  pub after : EndsOrFits o (next_place o s.fetched s p) (step o s w).state

-- the run without a fault is never detected
abbrev pub IsNeverDetected : Object → List Wild → Type 0
IsNeverDetected o w = (n : ℕ) → status_after o None w n ≢ Detected

-- after n steps without a fault: if the run is still running, it fits its place, which is a place of the object, and
-- its next step is untroubled; all answers to wild loads are left; and the run is not detected
pub record FitsAfter (o : Object) (w : List Wild) (n : ℕ) : Type 0 where
  pub is_place : status_after o None w n ≡ Running → IsPlace o (place o w n)
  pub fits : status_after o None w n ≡ Running → Fits o (place o w n) (state_after o None w n)
  pub untroubled : status_after o None w n ≡ Running → IsUntroubled o (state_after o None w n)
  pub wild : wild_after o None w n ≡ w
  pub undetected : status_after o None w n ≢ Detected
