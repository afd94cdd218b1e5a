-- How the parts of a command end.
use Rattle.std.proofs.Common.{◌≡◌, ◌≢◌, false, nat_le, ℕ, ◌<◌, List, [], ◌∷◌, length, Option, Some, None, Err, inl, inr}
use Rattle.std.proofs.Common.{⊎_elim, refl, sym, ap, ◌∙◌, subst}
use Rattle.std.specs.Prelude.{◌⊎◌, IsTrue}
use Rattle.std.proofs.lemmas.Bool.{lt-leb}
use Rattle.std.proofs.lemmas.Option.{same_Some, none-some}
use Rattle.ft_edge.specs.Lines.{with_lines, Puts, BreaksOff as LinesBreakOff}
use Rattle.ft_edge.specs.Logs.{SinkLog, ShelfLog, LoadFails}
use Rattle.ft_edge.specs.Loads.{Files}
use Rattle.ft_isa.specs.declared.plan.Wild.{Wild}
use Rattle.ft_types.specs.declared.object.Object as objects
use Rattle.ft_semantics.specs.declared.status.Status.{Status}
use Rattle.ft_semantics.specs.declared.status.Status.TheVariants as machine
use Rattle.ft_semantics.specs.Run.{run, status_after, outputs_after}
use Rattle.ft_types.specs.Spellable.{IsSpellable}
use Rattle.ft_typing.proofs.Acceptance.{accepted_is_unrefused}
use Rattle.ft_tolerance.specs.Soundness.{IsNeverDetected}
use Rattle.ft_tolerance.proofs.Whole.{never_detected}
use Rattle.ft_tolerance.proofs.Masking.{tolerant}
use Rattle.ft_isa.specs.declared.plan.Strike.{Strike}
use Rattle.ft_machine.specs.declared.run.RunEnd.{RunEnd}
use Rattle.ft_machine.specs.declared.run.RunEnd.TheVariants as runs
use Rattle.ft_machine.specs.Drives.{EndsAs, output_lines, put_end}
use Rattle.ft_format.specs.Broken.{broken}
use Rattle.ft_format.proofs.Write.{spells_unbroken}
use Rattle.ft_format.specs.declared.object_error.ObjectError.TheVariants.{Length}
use Rattle.ft_command.specs.Options.{Word}
use Rattle.ft_command.specs.Commands.{Run, Request}
use Rattle.ft_tool.specs.declared.load.ObjectFault.{ObjectFault}
use Rattle.ft_tool.specs.declared.load.ObjectFault.TheVariants.{Refused, Failed, NoMemory as no_memory}
use Rattle.ft_tool.specs.declared.ending.Ending.{Ending}
use Rattle.ft_typing.specs.Accepted.{Refusal, refusal}
use Rattle.ft_checker.specs.declared.error.CheckError.{CheckError}
use Rattle.ft_checker.specs.declared.error.CheckError.TheVariants as checks
use Rattle.ft_checker.specs.Judges.{IsRefusalOf}
use Rattle.ft_tool.specs.Replies.{Answer, one_piece, ran, status_of_run}
use Rattle.ft_tool.specs.Answers.{tried, Withstands, RunsUnless, RunsObject, TrialsObject, SpellsFile, ComesTo, FailsIn}
use Rattle.ft_tool.specs.Answers.{Concludes, BreaksOff}
use Rattle.ft_tool.specs.Told.{OfFiles}
use Rattle.ft_tool.specs.Files.{LoadsObject, FaultCause, IsRefusedBy, IsNotAccepted}
use Rattle.ft_tool.specs.Endings.{PartEnd, Concluded, Unloaded, Unwritten, Unfinished, part_end, is_early_end}
use Rattle.ft_tool.specs.Endings.{ends_early, EndsSo, Ends, ending_of_run}
use Rattle.ft_tool.proofs.Mapped.{some_files, files_with}

-- what an ending says stays true if its claims about the answer and the failure are weakened
EndsSo-map : (e : PartEnd) (P Q : Answer → Type 0) (old new : SinkLog) (L M : Type 0) → ((a : Answer) → P a → Q a)
    → (L → M) → EndsSo e P old new L → EndsSo e Q old new M
EndsSo-map (Concluded status) P Q old new L M f g h =
    record { answer = h.answer; is = f h.answer h.is; put = h.put; status_is = h.status_is }
EndsSo-map Unloaded P Q old new L M f g h = (h.0, g h.1)
EndsSo-map Unwritten P Q old new L M f g h = record { answer = h.answer; is = f h.answer h.is; broken = h.broken }
EndsSo-map Unfinished P Q old new L M f g h = h

pub Ends-map : (e : Ending) (P Q : Answer → Type 0) (old new : SinkLog) (L M : Type 0) → ((a : Answer) → P a → Q a) →
    (L → M) → Ends e P old new L → Ends e Q old new M
Ends-map e P Q old new L M f g h = EndsSo-map (part_end e) P Q old new L M f g h

-- a call that ends has an answer, or ends early
answered_so : (e : PartEnd) (P : Answer → Type 0) (old new : SinkLog) (L : Type 0) → EndsSo e P old new L
    → ((a : Answer) × P a) ⊎ IsTrue (is_early_end e)
answered_so (Concluded status) P old new L h = inl (h.answer, h.is)
answered_so Unloaded P old new L h = inr refl
answered_so Unwritten P old new L h = inl (h.answer, h.is)
answered_so Unfinished P old new L h = inr refl

pub answered_or_early : (e : Ending) (P : Answer → Type 0) (old new : SinkLog) (L : Type 0) → Ends e P old new L
    → ((a : Answer) × P a) ⊎ IsTrue (ends_early e)
answered_or_early e P old new L h = answered_so (part_end e) P old new L h

-- a call that ends without an answer ends early
pub unanswered : (e : Ending) (Is : Answer → Type 0) (old new : SinkLog) (L : Type 0) → ((a : Answer) → Is a → ⊥) →
    Ends e Is old new L → IsTrue (ends_early e)
unanswered e Is old new L none h =
    ⊎_elim (λ (x : (a : Answer) × Is a). absurd (none x.0 x.1)) (λ early. early) (answered_or_early e Is old new L h)

-- if no put failed, the count of failed puts is unchanged
pub count_kept : (e : PartEnd) (Is : Answer → Type 0) (old new : SinkLog) (L : Type 0) → EndsSo e Is old new L
    → e ≢ Unwritten → new.failures ≡ old.failures
count_kept (Concluded status) Is old new L h other = ap (λ (l : SinkLog). l.failures) h.put
count_kept Unloaded Is old new L h other = ap (λ (l : SinkLog). l.failures) h.0
count_kept Unwritten Is old new L h other = absurd (other refl)
count_kept Unfinished Is old new L h other = ap (λ (l : SinkLog). l.failures) h

-- refused bytes spell no object; any other fault ends the call early
pub unspelled : (told : Option Files) (name : Word) (e : ObjectFault) (end : Ending) (old new : SinkLog) (L : Type 0) →
    LoadsObject told name (Err e)
    → Ends end (IsRefusedBy e) old new L → OfFiles told (λ files. (SpellsFile files name → ⊥) ⊎ IsTrue (ends_early end))
unspelled told name (Refused e) end old new L h ends =
    let m = files_with told name h.0 h.1.0 in (
      m.0,
      (
        m.1.0,
        inl (λ s. none-some e (sym (spells_unbroken s.0 s.1.1.1.0 s.1.1.0 s.1.1.1.1)
            ∙ ap broken (same_Some s.0 h.0 (sym s.1.0 ∙ m.1.1)) ∙ h.1.1)),
      ),
    )
unspelled told name Failed end old new L h ends = let m = some_files told in
    (m.0, (m.1.0, inr (unanswered end (IsRefusedBy Failed) old new L (λ a is. is) ends)))
unspelled told name no_memory end old new L h ends = let m = some_files told in
    (m.0, (m.1.0, inr (unanswered end (IsRefusedBy no_memory) old new L (λ a is. is) ends)))

-- an object whose check failed has a refusal, or the call ends early
pub unaccepted : (x : Option Refusal) (e : CheckError) (end : Ending) (old new : SinkLog) (L : Type 0) → IsRefusalOf x e
    → Ends end (IsNotAccepted e) old new L → (x ≢ None) ⊎ IsTrue (ends_early end)
unaccepted x checks.EntryType end old new L h ends = inl (λ none. none-some _ (sym none ∙ h))
unaccepted x (checks.CellType k) end old new L h ends = inl (λ none. none-some _ (sym none ∙ h))
unaccepted x (checks.Refused b i why) end old new L h ends = inl (λ none. none-some _ (sym none ∙ h))
unaccepted x checks.NoMemory end old new L h ends =
    inr (unanswered end (IsNotAccepted checks.NoMemory) old new L (λ a is. is) ends)

-- if all lines of a run were written, so was the answer of `trial`
concludes : (r : Run) (o : objects.Object) (w : List Wild) (v : Status) (old new : SinkLog) → w ≡ r.wild
    → status_after o r.strike w r.steps ≡ v
    → new ≡ with_lines (output_lines o (outputs_after o r.strike w r.steps)) old
    → Concludes (TrialsObject r o) (status_of_run v) old new
concludes r o w v old new is status put = record {
  answer = ran o (run o r.strike r.wild r.steps);
  is = refl;
  put = put ∙ ap (λ ws. with_lines (output_lines o (outputs_after o r.strike ws r.steps)) old) is;
  status_is = ap status_of_run (sym (subst (λ ws. status_after o r.strike ws r.steps ≡ v) is status));
}

-- if the put of one of a run's lines failed, the answer of `trial` was written up to that line
breaks_off : (r : Run) (o : objects.Object) (w : List Wild) (old new : SinkLog) → w ≡ r.wild
    → LinesBreakOff (output_lines o (outputs_after o r.strike w r.steps)) old new → BreaksOff (TrialsObject r o) old new
breaks_off r o w old new is broken = record {
  answer = ran o (run o r.strike r.wild r.steps);
  is = refl;
  broken = subst (λ ws. LinesBreakOff (output_lines o (outputs_after o r.strike ws r.steps)) old new) is broken;
}

-- how a run ended and which of its lines were written determine how `trial` ends
pub trial_ends : (e : RunEnd) (r : Run) (o : objects.Object) (w : List Wild) (old new : SinkLog) → w ≡ r.wild
    → EndsAs e (status_after o r.strike w r.steps)
    → Puts (put_end e) (output_lines o (outputs_after o r.strike w r.steps)) old new
    → Ends (ending_of_run e) (TrialsObject r o) old new ⊥
trial_ends runs.Done r o w old new is status put = concludes r o w machine.Done old new is status put
trial_ends runs.Detected r o w old new is status put = concludes r o w machine.Detected old new is status put
trial_ends runs.OutOfSteps r o w old new is status put = concludes r o w machine.Running old new is status put
trial_ends runs.WriteFault r o w old new is status put = breaks_off r o w old new is put

-- an answer of one piece was written if its piece was, and breaks off if the put of its piece failed
pub piece_concludes : (Is : Answer → Type 0) (line piece : List ℕ) (status : ℕ) (old new : SinkLog)
    → Is (one_piece line status) → piece ≡ line → new ≡ with_lines (piece ∷ []) old → Concludes Is status old new
piece_concludes Is line piece status old new is e put =
    record {
      answer = one_piece line status;
      is = is;
      put = put
          ∙ ap (λ p. with_lines (p ∷ []) old) e;
      status_is = refl;
    }

pub piece_breaks_off : (Is : Answer → Type 0) (line piece : List ℕ) (status : ℕ) (old new : SinkLog)
    → Is (one_piece line status) → piece ≡ line → LinesBreakOff (piece ∷ []) old new → BreaksOff Is old new
piece_breaks_off Is line piece status old new is e broken =
    record { answer = one_piece line status; is = is; broken = subst (λ p. LinesBreakOff (p ∷ []) old new) e broken }

-- without a fault, the run of an accepted object is never detected
pub undetected : (o : objects.Object) (w : List Wild) → IsSpellable o → refusal o ≡ None → IsNeverDetected o w
undetected o w spellable h = never_detected o w spellable ((accepted_is_unrefused o).1 h)

-- an accepted object withstands every plan
withstands : (o : objects.Object) (strike : Option Strike) (w : List Wild) → IsSpellable o → refusal o ≡ None →
    Withstands o strike w
withstands o strike w spellable h = record {
  agrees = λ n. tolerant o strike w n spellable ((accepted_is_unrefused o).1 h);
  undetected = undetected o w spellable h;
}

-- for an accepted object, the answer of `trial` is also the answer of `run`
pub run_accepted : (r : Run) (o : objects.Object) → IsSpellable o → refusal o ≡ None → (a : Answer) → a ≡ tried r o →
    RunsObject r o a
run_accepted r o spellable h a is = subst (λ x. RunsUnless x r o a) (sym h) (
  is,
  withstands o r.strike r.wild spellable h,
)

-- how a run of an accepted object ended and which of its lines were written determine how `run` ends
pub run_ends : (e : RunEnd) (r : Run) (o x : objects.Object) (w : List Wild) (old new : SinkLog) → IsSpellable o
    → refusal o ≡ None → x ≡ o → w ≡ r.wild → EndsAs e (status_after x r.strike w r.steps)
    → Puts (put_end e) (output_lines x (outputs_after x r.strike w r.steps)) old new
    → Ends (ending_of_run e) (RunsObject r o) old new ⊥
run_ends e r o x w old new spelled unrefused same is status put =
    Ends-map (ending_of_run e) (TrialsObject r o) (RunsObject r o) old new ⊥ ⊥ (run_accepted r o spelled unrefused)
    (λ n. n)
    (subst (λ y. Ends (ending_of_run e) (TrialsObject r y) old new ⊥) same
    (trial_ends e r x w old new is status put))

-- bytes longer than the limit are refused for their length
pub too_long : (bytes : List ℕ) → 67108864 < length bytes → broken bytes ≡ Some (Length 67108864)
unfolding broken
too_long bytes long = let beyond : nat_le (length bytes) 67108864 ≡ false = lt-leb (length bytes) 67108864 long in
    rw beyond refl

-- if the fault is `Failed`, the load of the object failed
pub object_failed : (name : Word) (e : ObjectFault) (old new : ShelfLog) → FaultCause name e old new → e ≡ Failed
    → LoadFails name old new
object_failed name e old new h is = subst (λ f. FaultCause name f old new) is h

-- if a request loads a file whatever the files contain, and that load failed, then a load of the request failed
pub failed_in : (request : Request) (old new : ShelfLog) (name : Word)
    → ((files : Files) → ComesTo request old.files files name) → LoadFails name old new
    → OfFiles old.files (λ files. FailsIn request files old new)
failed_in request old new name comes h =
    let m = some_files old.files in (m.0, (m.1.0, record { file = name; comes = comes m.0; fails = h }))
