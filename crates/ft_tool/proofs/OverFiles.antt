-- What a command on one file does.
use Rattle.std.proofs.Common.{◌≡◌, ℕ, ◌<◌, Bool, List, [], ◌∷◌, length, Option, Some, Ok, inl, refl, ap, ◌∙◌, subst}
use Rattle.std.specs.Prelude.{◌⊎◌, IsTrue}
use Rattle.ft_edge.specs.declared.shelf.Load.TheVariants.{Whole, TooLong}
use Rattle.ft_edge.specs.Logs.{SinkLog, ShelfLog, LoadFails, NoLoadFails}
use Rattle.ft_command.specs.Options.{Word}
use Rattle.ft_command.specs.Commands.{Request}
use Rattle.ft_tool.specs.declared.ending.Ending.{Ending}
use Rattle.ft_tool.specs.declared.ending.Ending.TheVariants.{LoadFailed, NoMemory}
use Rattle.ft_tool.specs.Replies.{Answer, IsToldFile}
use Rattle.ft_tool.specs.Calls.{HasMade, LoadsFor}
use Rattle.ft_tool.specs.Told.{OfFiles}
use Rattle.ft_tool.specs.Files.{Gives}
use Rattle.ft_tool.specs.Endings.{Ends, ends_early}
use Rattle.ft_tool.specs.Does.{AnswersTo, FailsLoading, Does, IsOverFile}
use Rattle.ft_tool.proofs.Answered.{Ends-map, failed_in}
use Rattle.ft_tool.proofs.Mapped.{some_files, files_with, some_script}

module _ (r : Request) (file : Word) (limit : ℕ) (Over : List ℕ → Answer → Type 0) (one : IsOverFile r file limit Over)
    (name : Word) (bound : ℕ) (named : name ≡ file) (bounded : bound ≡ limit) (left : Option (List ℕ))
    (old new : SinkLog) (shelf shelf' : ShelfLog) where
  -- an answer for the file's bytes answers the request
  answers_bytes : (bytes : List ℕ) → IsToldFile shelf.files name bytes → (a : Answer) → Over bytes a
      → AnswersTo r shelf.files left a
  answers_bytes bytes h a is =
      let m = files_with shelf.files file bytes (subst (λ n. IsToldFile shelf.files n bytes) named h) in
      let s = some_script left in
      (m.0, (m.1.0, (s.0, (s.1.0, one.answers shelf.files m.0 s.0 bytes a m.1.1 is))))

  -- if only that file was loaded, the loads are those of the request
  loads_alone : (early : Bool) → HasMade ((name, bound) ∷ []) shelf.asked shelf'.asked
      → OfFiles shelf.files (λ files. LoadsFor r shelf.files files (IsTrue early) shelf.asked shelf'.asked)
  loads_alone early made =
      let m = some_files shelf.files in
      let there = subst (λ n. HasMade ((n, bound) ∷ []) shelf.asked shelf'.asked) named made in (
        m.0,
        (
          m.1.0,
          one.loads shelf.files m.0 early shelf.asked shelf'.asked
              (subst (λ l. HasMade ((file, l) ∷ []) shelf.asked shelf'.asked) bounded there),
        ),
      )

  -- what the call does if the whole file was loaded
  pub does_over : (e : Ending) (bytes lent : List ℕ) → Gives shelf.files name bound bytes (Ok Whole) → lent ≡ bytes
      → NoLoadFails shelf shelf' → HasMade ((name, bound) ∷ []) shelf.asked shelf'.asked
      → Ends e (Over lent) old new ⊥ → Does r e left old new shelf shelf' ⊥
  does_over e bytes lent h f same made ends = record {
    ends = Ends-map e (Over lent) (AnswersTo r shelf.files left) old new ⊥ (FailsLoading r shelf shelf' ⊎ ⊥)
        (λ a is. answers_bytes bytes h.1 a (subst (λ b. Over b a) f is)) (λ n. absurd n) ends;
    load_failures = λ other. same;
    made = loads_alone (ends_early e) made;
  }

  -- what the call does if the file is too long
  pub does_long : (e : Ending) (into : List ℕ) → Gives shelf.files name bound into (Ok TooLong)
      → NoLoadFails shelf shelf' → HasMade ((name, bound) ∷ []) shelf.asked shelf'.asked
      → Ends e (λ a. (bytes : List ℕ) → limit < length bytes → Over bytes a) old new ⊥
      → Does r e left old new shelf shelf' ⊥
  does_long e into h same made ends = record {
    ends =
        Ends-map e (λ a. (bytes : List ℕ) → limit < length bytes → Over bytes a) (AnswersTo r shelf.files left) old
        new ⊥ (FailsLoading r shelf shelf' ⊎ ⊥)
        (λ a is. answers_bytes h.0 h.1.0 a (is h.0 (subst (λ l. l < length h.0) bounded h.1.1))) (λ n. absurd n) ends;
    load_failures = λ other. same;
    made = loads_alone (ends_early e) made;
  }

  -- what the call does if the load failed
  pub does_fail : LoadFails name shelf shelf' → HasMade ((name, bound) ∷ []) shelf.asked shelf'.asked → new ≡ old
      → Does r LoadFailed left old new shelf shelf' ⊥
  does_fail h made none = record {
    ends = (
      none,
      inl (failed_in r shelf shelf' file (λ files. one.comes shelf.files files)
          (h.0, h.1 ∙ ap Some named)),
    );
    load_failures = λ other. absurd (other refl);
    made = loads_alone (ends_early LoadFailed) made;
  }

  -- what the call does if there was no memory for the file
  pub does_nothing : NoLoadFails shelf shelf' → HasMade ((name, bound) ∷ []) shelf.asked shelf'.asked → new ≡ old
      → Does r NoMemory left old new shelf shelf' ⊥
  does_nothing same made none =
      record { ends = none; load_failures = λ other. same; made = loads_alone (ends_early NoMemory) made }
