-- A run that is struck once: how it begins, and one of its steps.
use Rattle.std.proofs.Common.{◌≡◌, ◌⊎◌, inl, inr, ℕ, ◌+◌, ◌<◌, true, List, None, Some, sym, ap, ◌∙◌, subst, arith}
use Rattle.ft_isa.specs.declared.colour.Colour.{Colour}
use Rattle.ft_isa.specs.declared.plan.Site.{Site}
use Rattle.ft_isa.specs.declared.plan.Strike.{Strike}
use Rattle.ft_isa.specs.declared.plan.Wild.{Wild}
use Rattle.ft_types.specs.declared.object.Object.{Object}
use Rattle.ft_types.specs.Spellable.{IsSpellable}
use Rattle.ft_typing.specs.Accepted.{IsAccepted}
use Rattle.ft_semantics.specs.declared.status.Status.TheVariants.{Detected}
use Rattle.ft_semantics.specs.State.{State}
use Rattle.ft_semantics.specs.Step.{Stepping, step}
use Rattle.ft_semantics.specs.Strike.{is_there, struck_state}
use Rattle.ft_semantics.specs.Run.{Ran, run-add_one, state_after, wild_after}
use Rattle.ft_machine.specs.declared.stepped.Stepped.TheVariants as stepped
use Rattle.ft_machine.specs.Answers.{told, told_output, told_status}
use Rattle.ft_tolerance.specs.TypedState.{Place}
use Rattle.ft_tolerance.specs.Soundness.{EndsOrFits}
use Rattle.ft_tolerance.specs.Alike.{Follows, keeps_alike, is_detected, IsAlikeOrDetected, is_alike, has_stopped}
use Rattle.ft_tolerance.specs.Alike.{IsAlikeAfter, colour_of_site}
use Rattle.ft_semantics.proofs.Runs.{HasStopped, stays_at}
use Rattle.ft_semantics.proofs.Struck.{struck_there, spared}
use Rattle.ft_runs.specs.Runs.{CleanRun, IsClean, StruckRun, struck_now, IsStruckRun}
use Rattle.ft_tolerance.proofs.Whole.{along, accepted_fits}
use Rattle.ft_tolerance.proofs.Masking.{before, alike_at_once, alike_next, follows_along}

-- THE RESULT OF A STEP

-- a step from a detected state has the result `Detected`
detected_told : (o : Object) (t : State) (v : List Wild) → t.status ≡ Detected → told (step o t v) ≡ stepped.Detected
detected_told o t v d = ap told (stays_at o t.status t v (subst HasStopped (sym d) tt)) ∙ ap told_status d

-- a step that follows another has the same result, or is detected
follows_told : (c : Colour) (x y : Stepping) → Follows c x y → (told y ≡ told x) ⊎ (told y ≡ stepped.Detected)
follows_told c x y (keeps_alike h e) = inl (ap (λ s. told_output y.output s) (sym h.status)
    ∙ ap (λ z. told_output z x.state.status) (sym e))
follows_told c x y (is_detected d e) = inr (ap (λ z. told_output z y.state.status) e ∙ ap told_status d)

-- a step from a state that is alike or detected has the other's result, or is detected
told_next : (c : Colour) (o : Object) (p : Place) (s t : State) (w v : List Wild) → IsSpellable o → IsAccepted o →
    EndsOrFits o p s → IsAlikeOrDetected c s t
    → (told (step o t v) ≡ told (step o s w)) ⊎ (told (step o t v) ≡ stepped.Detected)
told_next c o p s t w v spelled acc fits (is_alike h) =
    follows_told c _ _ (follows_along c o p s t w v spelled acc fits h)
told_next c o p s t w v spelled acc fits (has_stopped d) = inr (detected_told o t v d)

-- BEGINNING AND STEPS

-- the colour of the site that was struck
abbrev struck_colour : StruckRun → Colour
struck_colour r = colour_of_site (state_after r.object None r.wild r.strike.step) r.strike.site

-- if a step has been taken since the strike, the next one is taken in the state after the steps taken
pub struck_later : (r : StruckRun) → r.strike.step < r.taken → struck_now r
    ≡ state_after r.object (Some r.strike) r.wild r.taken
struck_later r lt = spared r.strike r.taken (λ e. omega (arith, e))
    (state_after r.object (Some r.strike) r.wild r.taken)

-- striking a run without a fault begins a struck run
pub struck_begins : (r : CleanRun) (s t : State) (site : Site) (v : ℕ) (w : List Wild) → IsClean r s → is_there s site
    ≡ true → t ≡ struck_state s site v
    → IsStruckRun (record {
      object = r.object;
      strike = record { step = r.taken; site = site; value = v };
      wild = w;
      taken = r.taken;
    }) t w
struck_begins r s t site v w h found e =
    let x : Strike = record { step = r.taken; site = site; value = v } in
    let there = state_after r.object (Some x) w r.taken in
    let same = before r.object x w r.taken (omega arith) in
    record {
      spellable = h.spellable;
      accepted = h.accepted;
      struck = omega arith;
      there = sym (ap (λ u. is_there u site) (h.state w)) ∙ found;
      state =
          e
          ∙ ap (λ u. struck_state u site v) (h.state w ∙ ap (λ (y : Ran). y.state) same)
          ∙ sym (struck_there x there);
      left_is = sym (accepted_fits r.object w r.taken h.spellable h.accepted).wild ∙ ap (λ (y : Ran). y.wild) same;
      alike = alike_at_once r.object site v r.taken w t (e ∙ ap (λ u. struck_state u site v) (h.state w));
    }

-- after one more step, the machine is still that of this struck run
pub struck_next : (r : StruckRun) (s t : State) (left left' : List Wild) → IsStruckRun r s left → t
    ≡ (step r.object s left).state → left' ≡ (step r.object s left).wild →
    IsStruckRun (record r { taken = r.taken + 1 }) t left'
struck_next r s t left left' h es el =
    let next = run-add_one r.object (Some r.strike) r.wild r.taken in
    let le = h.struck in
    record {
      spellable = h.spellable;
      accepted = h.accepted;
      struck = omega (arith, le);
      there = h.there;
      state =
          es
          ∙ ap (λ u. (step r.object u left).state) h.state
          ∙ ap (λ l. (step r.object (struck_now r) l).state) h.left_is
          ∙ sym (ap (λ (y : Ran). y.state) next)
          ∙ sym (struck_later (record r { taken = r.taken + 1 }) (omega (arith, le)));
      left_is =
          el
          ∙ ap (λ u. (step r.object u left).wild) h.state
          ∙ ap (λ l. (step r.object (struck_now r) l).wild) h.left_is
          ∙ sym (ap (λ (y : Ran). y.wild) next);
      alike =
          subst (λ (u : State). IsAlikeAfter r.object r.strike r.wild (r.taken + 1) u) (sym es)
          (subst (λ (u : State). IsAlikeOrDetected (struck_colour r) u (step r.object s left).state)
          (sym (ap (λ (y : Ran). y.state) (run-add_one r.object None r.wild r.taken)))
          (alike_next (struck_colour r) r.object _ (state_after r.object None r.wild r.taken) s
          (wild_after r.object None r.wild r.taken) left h.spellable h.accepted
          (along r.object r.wild r.taken h.spellable h.accepted).after h.alike));
    }

-- a step has the result of the run without the fault, or the run is detected
pub struck_told : (r : StruckRun) (s : State) (left : List Wild) → IsStruckRun r s left
    → (told (step r.object s left) ≡ told (step r.object (state_after r.object None r.wild r.taken) r.wild)) ⊎
    (told (step r.object s left) ≡ stepped.Detected)
struck_told r s left h =
    told_next (struck_colour r) r.object _ (state_after r.object None r.wild r.taken) s r.wild left h.spellable
    h.accepted
    (along r.object r.wild r.taken h.spellable h.accepted).after h.alike
