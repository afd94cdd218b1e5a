-- The run of an accepted object without a fault fits its places.
use Rattle.std.proofs.Common.{◌≡◌, ℕ, zero, suc, List, None, refl, sym, ◌∙◌, subst}
use Rattle.ft_isa.specs.declared.plan.Wild.{Wild}
use Rattle.ft_types.specs.declared.object.Object.{Object}
use Rattle.ft_semantics.specs.declared.status.Status.{Status}
use Rattle.ft_typing.specs.Accepted.{IsAccepted}
use Rattle.ft_types.specs.Spellable.{IsSpellable}
use Rattle.ft_semantics.specs.State.{State}
use Rattle.ft_semantics.specs.Step.{step, step_at}
use Rattle.ft_semantics.specs.Run.{run, state_after, wild_after}
use Rattle.ft_tolerance.specs.TypedState.{Place, next_place, place}
use Rattle.ft_tolerance.specs.Soundness.{EndsOrFits, ended, running, IsNeverDetected, FitsAfter}
use Rattle.ft_tolerance.proofs.AcceptedSteps.{keeps}
use Rattle.ft_tolerance.proofs.Start.{start_is_place, start_fits}

-- a state is done or fits a place, and all answers to wild loads are left
pub record Along (o : Object) (p : Place) (s : State) (w v : List Wild) : Type 0 where
  pub after : EndsOrFits o p s
  pub wild : w ≡ v

-- this still holds after one more step, for the next place
along_step : (o : Object) (p : Place) (s : State) (w v : List Wild) → IsSpellable o → IsAccepted o → EndsOrFits o p s →
    w ≡ v → Along o (next_place o s.fetched s p) (step o s w).state (step o s w).wild v
along_step o p s w v spelled acc (ended d) e = subst (λ (x : Status).
    Along o (next_place o s.fetched s p) (step_at o x s w).state (step_at o x s w).wild v) (sym d)
    (record { after = ended d; wild = e })
along_step o p s w v spelled acc (running go at fits) e = let k = keeps o p s w spelled acc at go fits in
    record { after = k.after; wild = k.wild ∙ e }

-- after n steps, the run is done or fits its place, and all answers to wild loads are left
pub along : (o : Object) (w : List Wild) (n : ℕ) → IsSpellable o → IsAccepted o →
    Along o (place o w n) (state_after o None w n) (wild_after o None w n) w
unfolding run place
along o w zero spelled acc = record {
  after = running refl (start_is_place o spelled) (start_fits o spelled acc);
  wild = refl;
}
along o w (suc n) spelled acc =
    let h = along o w n spelled acc in
    along_step o (place o w n) (state_after o None w n) (wild_after o None w n) w spelled acc h.after h.wild

-- so `FitsAfter` holds
fits_by : (o : Object) (w : List Wild) (n : ℕ) → IsSpellable o → IsAccepted o →
    EndsOrFits o (place o w n) (state_after o None w n) → wild_after o None w n ≡ w → FitsAfter o w n
fits_by o w n spelled acc (ended d) e = record {
  is_place = λ go. absurd (cc);
  fits = λ go. absurd (cc);
  untroubled = λ go. absurd (cc);
  wild = e;
  undetected = λ x. cc;
}
fits_by o w n spelled acc (running go at fits) e = record {
  is_place = λ _. at;
  fits = λ _. fits;
  untroubled = λ _. (keeps o (place o w n) (state_after o None w n) w spelled acc at go fits).untroubled;
  wild = e;
  undetected = λ x. cc;
}

pub accepted_fits : (o : Object) (w : List Wild) (n : ℕ) → IsSpellable o → IsAccepted o → FitsAfter o w n
accepted_fits o w n spelled acc = let h = along o w n spelled acc in fits_by o w n spelled acc h.after h.wild

-- the run is never detected
pub never_detected : (o : Object) (w : List Wild) → IsSpellable o → IsAccepted o → IsNeverDetected o w
never_detected o w spelled acc n = (accepted_fits o w n spelled acc).undetected
