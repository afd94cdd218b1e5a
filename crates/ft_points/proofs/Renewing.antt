-- Points: the start is one, certification makes the next, and from each the run without a fault goes on.
use Rattle.std.proofs.Common.{◌≡◌, ℕ, ◌+◌, ◌≤◌, true, [], List, Option, Some, None, refl}
use Rattle.ft_isa.specs.declared.colour.Colour.{Colour}
use Rattle.ft_isa.specs.declared.colour.Colour.TheVariants.{Green}
use Rattle.ft_isa.specs.declared.plan.Strike.{Strike}
use Rattle.ft_isa.specs.declared.plan.Wild.{Wild}
use Rattle.ft_types.specs.declared.object.Object.{Object}
use Rattle.ft_types.specs.Spellable.{IsSpellable}
use Rattle.ft_typing.specs.Accepted.{IsAccepted}
use Rattle.ft_semantics.specs.State.{State, start}
use Rattle.ft_semantics.specs.Strike.{struck_before}
use Rattle.ft_semantics.specs.Run.{Ran, run, state_after}
use Rattle.ft_tolerance.specs.TypedState.{Place, start_place}
use Rattle.ft_tolerance.proofs.Masking.{AreTied, together}
use Rattle.ft_points.specs.Certified.{is_certified}
use Rattle.ft_points.specs.Points.{AreTogether, run_from, GoesOnFrom, IsPoint}
use Rattle.ft_points.proofs.Legs.{alike_state, start_together, with_itself, goes_along, goes_on_from, tied, c}
use Rattle.ft_points.proofs.Right.{certified_together}

-- the start is a point
pub start_is_point : (o : Object) → IsSpellable o → IsAccepted o → IsPoint o 0 (start o)
unfolding run
start_is_point o spelled acc = record { place = start_place o; states = start_together o spelled acc }

-- from a point, the run without a fault goes on
pub point_goes_on : (o : Object) (n : ℕ) (s : State) → IsSpellable o → IsAccepted o → IsPoint o n s → GoesOnFrom o n s
point_goes_on o n s spelled acc h = goes_on_from o h.place s n spelled acc h.states

-- the run after k steps, struck if the strike is due before the next one
abbrev ready : Option Strike → ℕ → Ran → Ran
ready strike k r = record r { state = struck_before strike k r.state }

-- the run from a point, with its strike, is tied to the run without it
ready_tied : (o : Object) (p : Place) (s : State) (strike : Option Strike) (w : List Wild) (k : ℕ) → IsSpellable o →
    IsAccepted o → AreTogether o p s s → ((x : Strike) → strike ≡ Some x → x.step ≤ k) →
    (d : Colour) × AreTied d (run_from o s None w k) (ready strike k (run_from o s strike w k))
ready_tied o p s None w k spelled acc h le = (Green, together (alike_state Green _) refl)
ready_tied o p s (Some x) w k spelled acc h le = (c o s x w, tied o s x w p spelled acc h k (le x refl))

-- a certified state after a point and at most one strike is a point
pub point_renewed : (o : Object) (n : ℕ) (s : State) (strike : Option Strike) (w : List Wild) (k : ℕ) → IsSpellable o →
    IsAccepted o → IsPoint o n s → ((x : Strike) → strike ≡ Some x → x.step ≤ k) →
    is_certified o (struck_before strike k (run_from o s strike w k).state) ≡ true →
    IsPoint o (n + k) (struck_before strike k (run_from o s strike w k).state)
point_renewed o n s strike w k spelled acc h le cert =
    let along = goes_along o h.place s [] w n k spelled acc h.states in
    let tie = ready_tied o h.place s strike w k spelled acc (with_itself o h.place _ s h.states) le in
    record {
      place = along.place;
      states = certified_together o tie.0 along.place (state_after o None [] (n + k)) (run_from o s None w k)
          (ready strike k (run_from o s strike w k)) spelled acc along.states tie.1 cert;
    }
