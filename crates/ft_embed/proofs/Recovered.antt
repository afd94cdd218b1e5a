-- Runs that are restarted if a fault is detected.
use Rattle.std.proofs.Common.{◌≡◌, ◌≢◌, ℕ, ◌<◌, ◌≤◌, List, length, Option, None, refl, ap, sym, subst, ◌∙◌}
use Rattle.std.specs.Prelude.{map}
use Rattle.std.proofs.lemmas.List.{length-map, length-take-le}
use Rattle.ft_isa.specs.declared.plan.Strike.{Strike}
use Rattle.ft_isa.specs.declared.plan.Wild.{Wild}
use Rattle.ft_isa.specs.declared.output.Output.{Output}
use Rattle.ft_types.specs.declared.object.Object.{Object}
use Rattle.ft_types.specs.Spellable.{IsSpellable}
use Rattle.ft_typing.specs.Accepted.{IsAccepted}
use Rattle.ft_semantics.specs.declared.status.Status.{Status}
use Rattle.ft_semantics.specs.declared.status.Status.TheVariants.{Running, Done, Detected}
use Rattle.ft_semantics.specs.Agrees.{Agrees, equal, stopped}
use Rattle.ft_semantics.specs.Run.{outputs_after, status_after}
use Rattle.ft_semantics.proofs.Runs.{HasStopped}
use Rattle.ft_tolerance.proofs.Masking.{tolerant}
use Rattle.ft_tolerance.proofs.Whole.{never_detected}
use Rattle.ft_format.specs.Format.{Spells}
use Rattle.ft_format.specs.Broken.{object_of, version_at}
use Rattle.ft_recover.specs.Recovery.{count_at}
use Rattle.ft_embed.specs.declared.filling.CellOutput.{CellOutput}
use Rattle.ft_embed.specs.Outputs.{cell_output, Ends, GoesUntil, Takes}
use Rattle.ft_embed.specs.Plans.{IsFault, AreAnswers}
use Rattle.ft_embed.specs.Recoveries.{IsRestart, RecoversInto, RecoversFile}
use Rattle.ft_embed.proofs.Ends.{all_of, stopped_all}

-- a run that is not detected agrees with the run without the fault
clean : (xs ys : List Output) (s t : Status) → Agrees xs s ys t → s ≢ Detected → (xs ≡ ys) × (s ≡ t)
clean xs ys s t (equal e f) other = (e, f)
clean xs ys s t (stopped e p) other = absurd (other e)

no_count : (s : Status) (xs : List Output) → s ≢ Detected → IsRestart (count_at s xs) 0 0
no_count Running xs other = (refl, refl)
no_count Done xs other = (refl, refl)
no_count Detected xs other = absurd (other refl)

some_count : (s : Status) (xs : List Output) (n : ℕ) → s ≡ Detected → n ≡ length xs → IsRestart (count_at s xs) 1 n
some_count Running xs n is e = absurd (cc)
some_count Done xs n is e = absurd (cc)
some_count Detected xs n is e = (refl, e)

-- the array has as many outputs as the run
outputs_count : (o : Object) (strike : Option Strike) (w : List Wild) (steps taken : ℕ) (s : Status) (count : ℕ)
    (new : List CellOutput) → Takes o strike w steps taken s count new → count ≡ length (outputs_after o strike w taken)
outputs_count o strike w steps taken s count new a = sym (length-take-le count new a.within) ∙ ap length a.outputs
    ∙ length-map (outputs_after o strike w taken) cell_output

module _ (o : Object) (strike : Option Strike) (w : List Wild) (steps : ℕ) (spellable : IsSpellable o)
    (accepted : IsAccepted o) where
  -- the run without the fault could also take each step that the struck run could take
  clean_until : (taken room : ℕ) → GoesUntil o strike w taken room → GoesUntil o None w taken room
  clean_until taken room h n below =
      let x = h n below in
      let other : status_after o strike w n ≢ Detected
      = λ detected. subst HasStopped x.running (subst HasStopped (sym detected) tt) in
      let same = clean _ _ _ _ (tolerant o strike w n spellable accepted) other in
      record { running = sym same.1 ∙ x.running; free = subst (λ (xs : List Output). length xs < room) same.0 x.free }

  pub recovers_first : (status taken count : ℕ) (s : Status) (new : List CellOutput) →
      Takes o strike w steps taken s count new → s ≢ Detected
      → ((n room : ℕ) → n ≤ room → taken ≤ steps → (s ≡ Running → n < room → taken ≡ steps) →
      Ends status steps taken n room s) → RecoversInto o strike w steps status taken count 0 0 new
  recovers_first status taken count s new a other ends =
      let same = clean _ _ _ _ (tolerant o strike w taken spellable accepted) (λ e. other (a.status_is ∙ e)) in
      let mine = ends count (length new) a.within a.few a.all in
      let struck : Ends status steps taken count (length new) (status_after o strike w taken) =
      subst (Ends status steps taken count (length new)) a.status_is mine in
      let whole : Ends status steps taken count (length new) (status_after o None w taken) =
      subst (Ends status steps taken count (length new)) same.1 struck in
      record {
        few = a.few;
        within = a.within;
        outputs = a.outputs ∙ ap (map cell_output) same.0;
        ends = whole;
        all = all_of o None w steps status taken count (length new) a.few whole;
        before = clean_until taken (length new) a.before;
        restart = λ full. no_count (status_after o strike w steps) (outputs_after o strike w steps)
            (λ e. other (a.status_is ∙ (all_of o strike w steps status taken count (length new) a.few struck
            full).status ∙ e));
        first = record {
          taken = taken;
          few = a.few;
          within = subst (λ n. n ≤ length new) (outputs_count o strike w steps taken s count new a) a.within;
          all = λ running room. a.all (a.status_is
              ∙ running) (subst (λ n. n < length new) (sym (outputs_count o strike w steps taken s count new a)) room);
          before = a.before;
          told = no_count (status_after o strike w taken) (outputs_after o strike w taken) (λ e.
              other (a.status_is ∙ e));
        };
      }

  pub recovers_second : (status taken count : ℕ) (s : Status) (new : List CellOutput) (taken' count' : ℕ) (s' : Status)
      (new' : List CellOutput) → Takes o strike w steps taken' s' count' new' → s' ≡ Detected → length new
      ≡ length new' →
      Takes o None w steps taken s count new
      → ((n room : ℕ) → n ≤ room → taken ≤ steps → (s ≡ Running → n < room → taken ≡ steps) →
      Ends status steps taken n room s) → RecoversInto o strike w steps status taken count 1 count' new
  recovers_second status taken count s new taken' count' s' new' b is long a ends =
      let whole : Ends status steps taken count (length new) (status_after o None w taken) =
      subst (Ends status steps taken count (length new)) a.status_is (ends count (length new) a.within a.few a.all) in
      let stopped' = sym b.status_is ∙ is in
      let halted : HasStopped (status_after o strike w taken') = subst HasStopped (sym stopped') tt in
      let same = stopped_all o strike w taken' steps b.few halted in
      let held = outputs_count o strike w steps taken' s' count' new' b in
      record {
        few = a.few;
        within = a.within;
        outputs = a.outputs;
        ends = whole;
        all = all_of o None w steps status taken count (length new) a.few whole;
        before = a.before;
        restart = λ full. some_count (status_after o strike w steps) (outputs_after o strike w steps) count'
            (sym same.status ∙ stopped') (held ∙ ap length same.outputs);
        first = record {
          taken = taken';
          few = b.few;
          within = subst (λ n. n ≤ length new) held (subst (λ n. count' ≤ n) (sym long) b.within);
          all = λ running _. absurd (subst HasStopped running halted);
          before = subst (GoesUntil o strike w taken') (sym long) b.before;
          told = some_count (status_after o strike w taken') (outputs_after o strike w taken') count' stopped' held;
        };
      }

-- `RecoversFile` holds if the object that bytes spell was recovered under the plan that the texts spell
pub recovers_file : (bytes view fault wild : List ℕ) (strike : Option Strike) (w : List Wild)
    (steps status taken count restarts again : ℕ) (new : List CellOutput) → view ≡ bytes →
    Spells bytes (version_at bytes) (object_of view) → IsAccepted (object_of view) → IsFault fault strike →
    AreAnswers wild w
    → RecoversInto (object_of view) strike w steps status taken count restarts again new →
    RecoversFile bytes fault wild steps status taken count restarts again new
recovers_file bytes view fault wild strike w steps status taken count restarts again new same spelled accepted is are
    recovers =
    let spelled' : Spells bytes (version_at bytes) (object_of bytes) =
    subst (λ v. Spells bytes (version_at bytes) (object_of v)) same spelled in
    let accepted' : IsAccepted (object_of bytes) = subst (λ v. IsAccepted (object_of v)) same accepted in
    record {
      file = record { spelled = spelled'; accepted = accepted' };
      strike = strike;
      is_fault = is;
      answers = w;
      are_answers = are;
      recovers = subst (λ v. RecoversInto (object_of v) strike w steps status taken count restarts again new) same
          recovers;
      sound = never_detected (object_of bytes) w spelled'.spellable accepted';
    }
