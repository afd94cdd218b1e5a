-- Runs of accepted programs, with the invariants of their types.
use Rattle.std.specs.Prelude.{◌≡◌, ℕ, ◌≤◌, true, List, None, Some}
use Rattle.ft_isa.specs.declared.plan.Strike.{Strike}
use Rattle.ft_isa.specs.declared.plan.Wild.{Wild}
use Rattle.ft_types.specs.declared.object.Object.{Object}
use Rattle.ft_typing.specs.Accepted.{IsAccepted}
use Rattle.ft_types.specs.Spellable.{IsSpellable}
use Rattle.ft_semantics.specs.State.{State}
use Rattle.ft_semantics.specs.Strike.{is_there, struck_before}
use Rattle.ft_semantics.specs.Run.{state_after, wild_after}
use Rattle.ft_tolerance.specs.Alike.{IsAlikeAfter}

-- a run without a fault: the object, and how many steps were taken
pub record CleanRun : Type 0 where
  pub object : Object
  pub taken : ℕ

-- the machine of a run without a fault: an accepted object's state after the steps taken, whatever the answers to wild
-- loads
pub record IsClean (r : CleanRun) (s : State) : Type 0 where
  pub spellable : IsSpellable r.object
  pub accepted : IsAccepted r.object
  pub state : (w : List Wild) → s ≡ state_after r.object None w r.taken

-- a run that was struck once: the object, the strike, the answers to wild loads, and how many steps were taken
pub record StruckRun : Type 0 where
  pub object : Object
  pub strike : Strike
  pub wild : List Wild
  pub taken : ℕ

-- the state in which the next step is taken: the state after the steps taken, struck if the strike is due before the
-- next step
abbrev pub struck_now : StruckRun → State
struck_now r = struck_before (Some r.strike) r.taken (state_after r.object (Some r.strike) r.wild r.taken)

-- the machine of a run that was struck at an existing site, and the answers left; the machine is like that of the run
-- without the strike after the same number of steps, or it is detected
pub record IsStruckRun (r : StruckRun) (s : State) (left : List Wild) : Type 0 where
  pub spellable : IsSpellable r.object
  pub accepted : IsAccepted r.object
  pub struck : r.strike.step ≤ r.taken
  pub there : is_there (state_after r.object None r.wild r.strike.step) r.strike.site ≡ true
  pub state : s ≡ struck_now r
  pub left_is : left ≡ wild_after r.object (Some r.strike) r.wild r.taken
  pub alike : IsAlikeAfter r.object r.strike r.wild r.taken s
