-- After any legs, each under at most one strike, the outputs are right.
use Rattle.std.proofs.Common.{◌≡◌, ◌≢◌, ℕ, ◌+◌, ◌-◌, Bool, true, false, if◌then◌else◌}
use Rattle.std.proofs.Common.{List, [], ◌∷◌, ◌++◌, length, None, refl, sym, ap, ◌∙◌, subst, arith, append-nil}
use Rattle.std.proofs.Common.{length-append}
use Rattle.std.specs.Prelude.{drop}
use Rattle.std.proofs.lemmas.Bool.{and_parts}
use Rattle.ft_isa.specs.declared.colour.Colour.{Colour}
use Rattle.ft_isa.specs.declared.output.Output.{Output}
use Rattle.ft_isa.specs.declared.plan.Wild.{Wild}
use Rattle.ft_types.specs.declared.object.Object.{Object}
use Rattle.ft_types.specs.Spellable.{IsSpellable}
use Rattle.ft_typing.specs.Accepted.{IsAccepted}
use Rattle.ft_semantics.specs.declared.status.Status.{Status}
use Rattle.ft_semantics.specs.declared.status.Status.TheVariants.{Running, Done, Detected}
use Rattle.ft_semantics.specs.Agrees.{IsPrefix}
use Rattle.ft_semantics.specs.State.{State}
use Rattle.ft_semantics.specs.Strike.{struck_state}
use Rattle.ft_semantics.specs.Run.{Ran, run, state_after, outputs_after, status_after}
use Rattle.ft_semantics.proofs.Runs.{HasStopped, run_stays, outputs_grow}
use Rattle.ft_tolerance.specs.TypedState.{Place, start_place}
use Rattle.ft_tolerance.specs.Alike.{AreAlike, colour_of_site}
use Rattle.ft_tolerance.proofs.Alike.{strike_alike}
use Rattle.ft_tolerance.proofs.Masking.{AreTied, together, over}
use Rattle.ft_tolerance.proofs.AnyAnswers.{any_answers}
use Rattle.ft_tolerance.proofs.Statuses.{running_is}
use Rattle.ft_points.specs.Certified.{is_certified}
use Rattle.ft_points.specs.Points.{AreTogether, both_done, both_run, run_from, Leg, Progress, begun, leg_run}
use Rattle.ft_points.specs.Points.{all_outputs}
use Rattle.ft_points.specs.Points.{kept, rolled_back, after_leg, after_legs, IsRight}
use Rattle.ft_points.proofs.Certified.{certified_fits}
use Rattle.ft_points.proofs.Prefixes.{longer, longer_prefix, within_longer, longer_whole, prefix_on, after_same}
use Rattle.ft_points.proofs.Prefixes.{longer_after}
use Rattle.ft_points.proofs.Legs.{same_status, with_itself, start_together, GoesAlong, goes_along, goes_on_from}
use Rattle.ft_points.proofs.Legs.{leg_tied}

-- the outputs of the run without a fault after n steps
abbrev pub clean : Object → ℕ → List Output
clean o n = outputs_after o None [] n

-- the state kept is together with that of the run without a fault after `taken` steps; the outputs begin with those of
-- that run until there, and are a prefix of its outputs after `enough` steps
pub record Holds (o : Object) (g : Progress) : Type 0 where
  pub taken : ℕ
  pub place : Place
  pub together : AreTogether o place (state_after o None [] taken) g.state
  pub before : g.before ≡ length (clean o taken)
  pub since : IsPrefix (clean o taken) g.outputs
  pub enough : ℕ
  pub front : IsPrefix g.outputs (clean o enough)
  pub whole : g.status ≡ Done → (status_after o None [] enough ≡ Done) × (clean o enough ≡ g.outputs)

-- A LEG

-- the run of the leg has a prefix of the outputs of the run without a fault, and all of them unless it is detected
pub record Leads (o : Object) (w : List Wild) (m : ℕ) (first : List Output) (r : Ran) : Type 0 where
  pub front : IsPrefix (first ++ r.outputs) (outputs_after o None w m)
  pub same : r.state.status ≢ Detected → outputs_after o None w m ≡ first ++ r.outputs
  pub status : r.state.status ≢ Detected → status_after o None w m ≡ r.state.status

-- a run that is tied to one that goes along leads
pub leads_by : (o : Object) (c : Colour) (w : List Wild) (m : ℕ) (first : List Output) (u r : Ran) →
    GoesAlong o w m first u → AreTied c u r → Leads o w m first r
leads_by o c w m first u r a (together h e) = record {
  front = ([], append-nil (first ++ r.outputs) ∙ sym (a.outputs ∙ ap (λ l. first ++ l) e));
  same = λ _. a.outputs ∙ ap (λ l. first ++ l) e;
  status = λ _. same_status o a.place _ _ a.states ∙ h.status;
}
leads_by o c w m first u r a (over d e) = record {
  front = subst (IsPrefix (first ++ r.outputs)) (sym a.outputs) (after_same first r.outputs u.outputs e);
  same = λ ok. absurd (ok d);
  status = λ ok. absurd (ok d);
}

-- a certified state is running
pub certified_runs : (o : Object) (s : State) → is_certified o s ≡ true → s.status ≡ Running
certified_runs o s h = running_is s.status (and_parts _ _ (and_parts _ _ (and_parts _ _ h).0).0).0

-- a certified state that is alike to a state together with that of the run without a fault is together with it
struck_together : (o : Object) (c : Colour) (p : Place) (f s t : State) → IsSpellable o → IsAccepted o →
    AreTogether o p f s → AreAlike c s t → is_certified o t ≡ true → AreTogether o p f t
struck_together o c p f s t spelled acc (both_done d e) alike cert =
    let run = certified_runs o t cert in let stop = sym alike.status ∙ e in cc
struck_together o c p f s t spelled acc (both_run go go' at fits fits' g) alike cert =
    both_run go (sym alike.status ∙ go') at fits (certified_fits c o p s t spelled acc at fits' alike cert) (g
    ∙ alike.fetched)

-- so is a certified state at the end of a leg
pub certified_together : (o : Object) (c : Colour) (p : Place) (f : State) (u r : Ran) → IsSpellable o → IsAccepted o →
    AreTogether o p f u.state → AreTied c u r → is_certified o r.state ≡ true → AreTogether o p f r.state
certified_together o c p f u r spelled acc h (over d e) cert = let run = certified_runs o r.state cert in cc
certified_together o c p f u r spelled acc h (together alike same) cert =
    struck_together o c p f u.state r.state spelled acc h alike cert

-- a machine that is done has stopped
pub done_stops : (x : Status) → x ≡ Done → HasStopped x
done_stops Running e = cc
done_stops Done e = tt
done_stops Detected e = tt

module _ (o : Object) (x : Leg) (g : Progress) (spelled : IsSpellable o) (acc : IsAccepted o) (h : Holds o g) where
  abbrev r : Ran
  r = leg_run o x g

  abbrev m : ℕ
  m = h.taken + x.steps

  abbrev most : ℕ
  most = h.enough + m

  along : GoesAlong o [] m (clean o h.taken) (run_from o g.state None x.wild x.steps)
  along = goes_along o h.place g.state [] x.wild h.taken x.steps spelled acc h.together

  tie : (c : Colour) × AreTied c (run_from o g.state None x.wild x.steps) r
  tie = leg_tied o h.place g.state x.strike x.wild x.steps spelled acc (with_itself o h.place _ g.state h.together)

  led : Leads o [] m (clean o h.taken) r
  led = leads_by o tie.0 [] m (clean o h.taken) (run_from o g.state None x.wild x.steps) r along tie.1

  abbrev reached : List Output
  reached = clean o h.taken ++ r.outputs

  -- the outputs after the leg are the longer of the outputs before it and those that it reaches
  is_longer : all_outputs g r ≡ longer g.outputs reached
  is_longer =
      ap (λ n. g.outputs ++ drop (length g.outputs - n) r.outputs) h.before
      ∙ sym (longer_after (clean o h.taken) g.outputs r.outputs h.since)

  old_front : IsPrefix g.outputs (clean o most)
  old_front = prefix_on g.outputs (clean o h.enough) (clean o most) h.front
      (outputs_grow o None [] h.enough most (omega arith))

  new_front : IsPrefix reached (clean o most)
  new_front = prefix_on reached (clean o m) (clean o most) led.front (outputs_grow o None [] m most (omega arith))

  all_front : IsPrefix (all_outputs g r) (clean o most)
  all_front = subst (λ l. IsPrefix l (clean o most)) (sym is_longer)
      (longer_prefix g.outputs reached (clean o most) old_front new_front)

  reached_within : IsPrefix reached (all_outputs g r)
  reached_within = subst (IsPrefix reached) (sym is_longer)
      (within_longer g.outputs reached (clean o most) old_front new_front)

  -- if the leg ends as done, the outputs are whole
  whole : r.state.status ≡ Done → (status_after o None [] most ≡ Done) × (clean o most ≡ all_outputs g r)
  whole d =
      let ok : r.state.status ≢ Detected = (λ e. cc) in
      let at_end : status_after o None [] m ≡ Done = led.status ok ∙ d in
      let stays = run_stays o None [] m most (omega arith) (done_stops _ at_end) in
      let same : clean o most ≡ reached = ap (λ (y : Ran). y.outputs) stays ∙ led.same ok in (
        ap (λ (y : Ran). y.state.status) stays ∙ at_end,
        same ∙ sym (longer_whole g.outputs reached (subst (IsPrefix g.outputs) same old_front)) ∙ sym is_longer,
      )

  -- the state at the end is kept
  holds_kept : is_certified o r.state ≡ true → Holds o (kept g r)
  holds_kept cert =
      let runs = certified_runs o r.state cert in
      let ok : r.state.status ≢ Detected = (λ e. cc) in
      record {
        taken = m;
        place = along.place;
        together = certified_together o tie.0 along.place (state_after o None [] m)
            (run_from o g.state None x.wild x.steps) r spelled acc along.states tie.1 cert;
        before = ap (λ n. n + length r.outputs) h.before ∙ sym (length-append (clean o h.taken) r.outputs)
            ∙ ap (λ (l : List Output). length l) (sym (led.same ok));
        since = subst (λ l. IsPrefix l (all_outputs g r)) (sym (led.same ok)) reached_within;
        enough = most;
        front = all_front;
        whole = whole;
      }

  -- the state kept before stays
  holds_back : Holds o (rolled_back g r)
  holds_back = record {
    taken = h.taken;
    place = h.place;
    together = h.together;
    before = h.before;
    since = prefix_on (clean o h.taken) g.outputs (all_outputs g r) h.since
        (drop (length g.outputs - g.before) r.outputs, refl);
    enough = most;
    front = all_front;
    whole = whole;
  }

  holds_by : (b : Bool) → is_certified o r.state ≡ b → Holds o (if b then kept g r else rolled_back g r)
  holds_by true e = holds_kept e
  holds_by false e = holds_back

  holds_next : Holds o (after_leg o x g)
  holds_next = holds_by (is_certified o r.state) refl

-- ALL LEGS

-- before the first leg
holds_first : (o : Object) → IsSpellable o → IsAccepted o → Holds o (begun o)
unfolding run
holds_first o spelled acc = record {
  taken = 0;
  place = start_place o;
  together = start_together o spelled acc;
  before = refl;
  since = ([], refl);
  enough = 0;
  front = ([], refl);
  whole = λ e. cc;
}

-- after any legs
pub holds_all : (o : Object) (xs : List Leg) → IsSpellable o → IsAccepted o → Holds o (after_legs o xs)
holds_all o [] spelled acc = holds_first o spelled acc
holds_all o (x ∷ xs) spelled acc = holds_next o x (after_legs o xs) spelled acc (holds_all o xs spelled acc)

-- so after any legs the outputs are right
pub right : (o : Object) (xs : List Leg) → IsSpellable o → IsAccepted o → IsRight o (after_legs o xs)
right o xs spelled acc =
    let g = after_legs o xs in
    let h = holds_all o xs spelled acc in
    record {
      taken = h.taken;
      rest = goes_on_from o h.place g.state h.taken spelled acc h.together;
      struck = λ site v cert. goes_on_from o h.place (struck_state g.state site v) h.taken spelled acc
          (struck_together o (colour_of_site g.state site) h.place (state_after o None [] h.taken) g.state
          (struck_state g.state site v) spelled acc h.together (strike_alike g.state site v) cert);
      before = λ w. h.before ∙ ap (λ (l : List Output). length l) (any_answers o [] w h.taken spelled acc).outputs;
      enough = h.enough;
      front = λ w. subst (IsPrefix g.outputs) (any_answers o [] w h.enough spelled acc).outputs h.front;
      whole = λ d w. (let y = h.whole d in let a = any_answers o [] w h.enough spelled acc in
          (ap (λ (s : State). s.status) (sym a.state) ∙ y.0, sym a.outputs ∙ y.1));
    }
