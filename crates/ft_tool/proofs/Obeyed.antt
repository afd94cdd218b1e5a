-- What a call does for a request, restated for the words that ask for the request.
use Rattle.std.proofs.Common.{◌≡◌, ◌≢◌, ℕ, List, [], ◌∷◌, Option, inl, inr, refl, sym, subst}
use Rattle.std.specs.Prelude.{◌⊎◌, IsTrue}
use Rattle.ft_edge.specs.Loads.{Files}
use Rattle.ft_edge.specs.Streams.{TakesAtMost}
use Rattle.ft_edge.specs.Logs.{SinkLog, ShelfLog, NoLoadFails, SourceLog}
use Rattle.ft_command.specs.Options.{Word}
use Rattle.ft_command.specs.Commands.{Debugging, Request, Usage, Debugs, Asks}
use Rattle.ft_tool.specs.declared.ending.Ending.{Ending}
use Rattle.ft_tool.specs.declared.ending.Ending.TheVariants as endings
use Rattle.ft_tool.specs.Replies.{Answer, AreFiles}
use Rattle.ft_tool.specs.Scripts.{DebugsObject}
use Rattle.ft_tool.specs.Answers.{Answers, IsAnswer, OverFile, Concludes, SpellsFile, FailsIn, FailedToLoad}
use Rattle.ft_tool.specs.Answers.{FailsAtScript, FailedToTake}
use Rattle.ft_tool.specs.Calls.{HasMade, object_load, LoadsFor, Loads, TakesFrom}
use Rattle.ft_tool.specs.Told.{OfFiles, OfScript}
use Rattle.ft_tool.specs.Endings.{Unwritten, part_end, Ends, ends_early}
use Rattle.ft_tool.specs.Does.{AnswersTo, FailsLoading, FailsTaking, TakesFor, Does}
use Rattle.ft_tool.proofs.Answered.{Ends-map, count_kept}
use Rattle.ft_tool.proofs.Mapped.{some_files, some_script}
use Rattle.ft_tool.proofs.Statuses.{usage_alone}

-- REQUESTS

-- if an answer is right for every script, it answers the request
any_script : (r : Request) (told : Option Files) (left : Option (List ℕ)) (a : Answer) →
    OfFiles told (λ files. (script : List ℕ) → Answers r told files script a) → AnswersTo r told left a
any_script r told left a h = let s = some_script left in (h.0, (h.1.0, (s.0, (s.1.0, h.1.1 s.0))))

-- what a call does for a request that needs no script, given its answer and its loads
pub does_files : (r : Request) (e : Ending) {left : Option (List ℕ)} {old new : SinkLog} {shelf shelf' : ShelfLog}
    {Takes : Type 0} (Load : Type 0) (Is : Answer → Type 0) → Ends e Is old new Load
    → ((a : Answer) → Is a → OfFiles shelf.files (λ files. (script : List ℕ) → Answers r shelf.files files script a))
    → (Load → FailsLoading r shelf shelf') → (e ≢ endings.LoadFailed → NoLoadFails shelf shelf')
    → OfFiles shelf.files (λ files. LoadsFor r shelf.files files (IsTrue (ends_early e)) shelf.asked shelf'.asked)
    → Does r e left old new shelf shelf' Takes
does_files r e {left} {old} {new} {shelf} {shelf'} {Takes} Load Is ends is fails load_failures made = record {
  ends = Ends-map e Is (AnswersTo r shelf.files left) old new Load (FailsLoading r shelf shelf' ⊎ Takes)
      (λ a h. any_script r shelf.files left a (is a h)) (λ h. inl (fails h)) ends;
  load_failures = load_failures;
  made = made;
}

-- what a call does for a request that needs neither a file nor a script
pub does_alone : (r : Request) (e : Ending) {left : Option (List ℕ)} {old new : SinkLog} (shelf : ShelfLog)
    {Takes : Type 0} (Is : Answer → Type 0) → Ends e Is old new ⊥
    → ((files : Files) (script : List ℕ) (a : Answer) → Is a → Answers r shelf.files files script a)
    → ((files : Files) → LoadsFor r shelf.files files (IsTrue (ends_early e)) shelf.asked shelf.asked)
    → Does r e left old new shelf shelf Takes
does_alone r e shelf Is ends is none =
    let m = some_files shelf.files in
    does_files r e ⊥ Is ends (λ a h. (m.0, (m.1.0, λ script. is m.0 script a h))) (λ n. absurd n)
    (λ other. (refl, refl)) (m.0, (m.1.0, none m.0))

-- if the script cannot fail, a failure is a failed load
loading : (r : Request) (shelf shelf' : ShelfLog) (Takes : Type 0) → FailsLoading r shelf shelf' ⊎ ⊥
    → FailsLoading r shelf shelf' ⊎ Takes
loading r shelf shelf' Takes (inl h) = inl h
loading r shelf shelf' Takes (inr none) = absurd none

-- what a call does for a request that reads no script, it does for an equal request
pub does_untaken : {r q : Request} {e : Ending} {left : Option (List ℕ)} {old new : SinkLog}
    {shelf shelf' : ShelfLog} {Takes : Type 0} → r ≡ q → Does q e left old new shelf shelf' ⊥
    → Does r e left old new shelf shelf' Takes
does_untaken {r} {q} {e} {left} {old} {new} {shelf} {shelf'} {Takes} same h =
    let answers = AnswersTo q shelf.files left in
    subst (λ p. Does p e left old new shelf shelf' Takes) (sym same) (record {
      ends = Ends-map e answers answers old new (FailsLoading q shelf shelf' ⊎ ⊥) (FailsLoading q shelf shelf' ⊎ Takes)
          (λ a is. is) (loading q shelf shelf' Takes) h.ends;
      load_failures = h.load_failures;
      made = h.made;
    })

-- the answer to a session, and what it means that the load or a take of a session failed
abbrev SessionAnswers : Debugging → ShelfLog → Option (List ℕ) → Answer → Type 0
SessionAnswers d shelf left a =
    OfFiles shelf.files (λ files. OfScript left (λ text. OverFile (DebugsObject d text) d.object files a))

abbrev SessionFails : Debugging → ShelfLog → ShelfLog → SourceLog → SourceLog → Type 0
SessionFails d shelf shelf' script script' =
    OfFiles shelf.files (λ files. FailsIn (Debugs d) files shelf shelf' ⊎ FailsAtScript d files script script')

session_fails : (d : Debugging) (shelf shelf' : ShelfLog) (script script' : SourceLog) (files : Files)
    → AreFiles shelf.files files → FailsIn (Debugs d) files shelf shelf' ⊎ FailsAtScript d files script script'
    → FailsLoading (Debugs d) shelf shelf' ⊎ FailsTaking (Debugs d) shelf.files script script'
session_fails d shelf shelf' script script' files are (inl h) = inl (files, (are, h))
session_fails d shelf shelf' script script' files are (inr h) =
    inr (record { debugging = d; is = refl; fails = (files, (are, h)) })

-- what a call does for a session
pub does_session : (d : Debugging) {r : Request} (e : Ending) {old new : SinkLog} (shelf shelf' : ShelfLog)
    (left : Option (List ℕ)) (script script' : SourceLog) → r ≡ Debugs d
    → Ends e (SessionAnswers d shelf left) old new (SessionFails d shelf shelf' script script')
    → (e ≢ endings.LoadFailed → NoLoadFails shelf shelf') → HasMade (object_load d.object ∷ []) shelf.asked shelf'.asked
    → Does r e left old new shelf shelf' (FailsTaking r shelf.files script script')
does_session d e {old} {new} shelf shelf' left script script' same ends load_failures made =
    let m = some_files shelf.files in
    let fails = FailsLoading (Debugs d) shelf shelf' ⊎ FailsTaking (Debugs d) shelf.files script script' in
    subst (λ p. Does p e left old new shelf shelf' (FailsTaking p shelf.files script script')) (sym same)
    (record {
      ends = Ends-map e (SessionAnswers d shelf left) (AnswersTo (Debugs d) shelf.files left) old new
          (SessionFails d shelf shelf' script script') fails (λ a is. is)
          (λ h. session_fails d shelf shelf' script script' h.0 h.1.0 h.1.1) ends;
      load_failures = load_failures;
      made = (m.0, (m.1.0, made));
    })

-- what is known about the takes of a session holds for a request that equals the session
pub takes_session : (d : Debugging) {r : Request} (told : Option Files) (script script' : SourceLog) {Same : Type 0}
    → r ≡ Debugs d
    → (OfFiles told (λ files. SpellsFile files d.object)
    × TakesAtMost 1048577 script script') ⊎ Same
    → TakesFor r told script script' ⊎ Same
takes_session d told script script' is (inl h) = inl (record { debugging = d; is = is; comes = h.0; taken = h.1 })
takes_session d told script script' is (inr h) = inr h

-- WORDS

module _ (words : List Word) {r : Request} (asks : Asks words r) {e : Ending} {old new : SinkLog}
    {shelf shelf' : ShelfLog} {left : Option (List ℕ)} {script script' : SourceLog}
    (does : Does r e left old new shelf shelf' (FailsTaking r shelf.files script script')) where
  abbrev Fails : Type 0
  Fails = FailsLoading r shelf shelf' ⊎ FailsTaking r shelf.files script script'

  abbrev Failed : Type 0
  Failed = FailedToLoad words shelf shelf' ⊎ FailedToTake words shelf.files script script'

  fails_so : Fails → Failed
  fails_so (inl h) = inl (record { request = r; asks = asks; files = h.0; are_files = h.1.0; fails = h.1.1 })
  fails_so (inr h) =
      let f = h.fails in
      inr (record {
        debugging = h.debugging;
        asks = subst (Asks words) h.is asks;
        files = f.0;
        are_files = f.1.0;
        fails = f.1.1;
      })

  pub asked_ends : Ends e (IsAnswer words shelf.files left) old new Failed
  asked_ends =
      Ends-map e (AnswersTo r shelf.files left) (IsAnswer words shelf.files left) old new Fails Failed
      (λ a h. record {
        request = r;
        asks = asks;
        files = h.0;
        are_files = h.1.0;
        script = h.1.1.0;
        is_script = h.1.1.1.0;
        answers = h.1.1.1.1;
      }) fails_so does.ends

  pub asked_failures : part_end e ≢ Unwritten → new.failures ≡ old.failures
  asked_failures = count_kept (part_end e) (AnswersTo r shelf.files left) old new Fails does.ends

  pub asked_usage : e ≡ endings.Usage → Asks words Usage
  asked_usage is =
      let answers = AnswersTo r shelf.files left in
      let h : Concludes answers 2 old new = subst (λ z. Ends z answers old new Fails) is does.ends in
      subst (Asks words) (usage_alone r shelf.files h.is.0 h.is.1.1.0 h.answer h.is.1.1.1.1 h.status_is) asks

  pub asked_loads : Loads words (IsTrue (ends_early e)) shelf shelf'
  asked_loads =
      record { request = r; asks = asks; files = does.made.0; are_files = does.made.1.0; made = does.made.1.1 }

-- what is known about the takes of a request holds for the words that ask for it
pub asked_takes : (words : List Word) {r : Request} {told : Option Files} {script script' : SourceLog} {Same : Type 0}
    → Asks words r → TakesFor r told script script' ⊎ Same → TakesFrom words told script script' ⊎ Same
asked_takes words asks (inl h) =
    inl (record {
      debugging = h.debugging;
      asks = subst (Asks words) h.is asks;
      files = h.comes.0;
      are_files = h.comes.1.0;
      comes = h.comes.1.1;
      taken = h.taken;
    })
asked_takes words asks (inr h) = inr h

-- the loads are those of the request, or none; the latter with a status instead of an ending
pub loads_or_nothing : {A B P Q : Type 0} → (P → Q) → A ⊎ (P × B) → A ⊎ (Q × B)
loads_or_nothing f (inl h) = inl h
loads_or_nothing f (inr h) = inr (f h.0, h.1)
