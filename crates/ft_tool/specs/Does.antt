-- What the parts of the tool do for a request: private to the tool.
use Rattle.std.specs.Prelude.{◌≡◌, ◌≢◌, ◌⊎◌, ℕ, Bool, IsTrue, List, [], ◌∷◌, Option}
use Rattle.ft_edge.specs.Loads.{Files}
use Rattle.ft_edge.specs.Streams.{TakesAtMost}
use Rattle.ft_edge.specs.Logs.{SinkLog, ShelfLog, NoLoadFails, SourceLog}
use Rattle.ft_command.specs.Options.{Word}
use Rattle.ft_command.specs.Commands.{Debugging, Request, Debugs}
use Rattle.ft_tool.specs.declared.ending.Ending.{Ending}
use Rattle.ft_tool.specs.declared.ending.Ending.TheVariants.{LoadFailed}
use Rattle.ft_tool.specs.Replies.{Answer, IsFile}
use Rattle.ft_tool.specs.Answers.{Answers, ComesTo, FailsIn, SpellsFile, FailsAtScript}
use Rattle.ft_tool.specs.Calls.{LoadList, HasMade, LoadsFor}
use Rattle.ft_tool.specs.Told.{OfFiles, OfScript}
use Rattle.ft_tool.specs.Endings.{Ends, ends_early}

-- the answer to a request, with the revealed files and script, or else with some files and some script
abbrev pub AnswersTo : Request → Option Files → Option (List ℕ) → Answer → Type 0
AnswersTo r told left a = OfFiles told (λ files. OfScript left (λ script. Answers r told files script a))

-- a request got as far as loading a file, and that load failed
abbrev pub FailsLoading : Request → ShelfLog → ShelfLog → Type 0
FailsLoading r old new = OfFiles old.files (λ files. FailsIn r files old new)

-- a request for a session got as far as its script, and a take of the script failed
pub record FailsTaking (r : Request) (told : Option Files) (old new : SourceLog) : Type 0 where
  pub debugging : Debugging
  pub is : r ≡ Debugs debugging
  pub fails : OfFiles told (λ files. FailsAtScript debugging files old new)

-- the request is for a session on an object, and at most 1,048,577 bytes of the script were read
pub record TakesFor (r : Request) (told : Option Files) (old new : SourceLog) : Type 0 where
  pub debugging : Debugging
  pub is : r ≡ Debugs debugging
  pub comes : OfFiles told (λ files. SpellsFile files debugging.object)
  pub taken : TakesAtMost 1048577 old new

-- what a call does for a request: it writes the answer, or the part before a failed put, unless a load or a take fails
-- or memory runs out. No load fails unless the call ends with `LoadFailed`, and the loads are those of the request
pub record Does (r : Request) (e : Ending) (left : Option (List ℕ)) (old new : SinkLog) (shelf shelf' : ShelfLog)
    (Takes : Type 0) : Type 0 where
  pub ends : Ends e (AnswersTo r shelf.files left) old new (FailsLoading r shelf shelf' ⊎ Takes)
  pub load_failures : e ≢ LoadFailed → NoLoadFails shelf shelf'
  pub made : OfFiles shelf.files (λ files. LoadsFor r shelf.files files (IsTrue (ends_early e)) shelf.asked shelf'.asked)

-- a request that reads at most `limit` bytes of one file: an answer for the file's bytes answers the request, which
-- loads no other file
pub record IsOverFile (r : Request) (file : Word) (limit : ℕ) (Over : List ℕ → Answer → Type 0) : Type 0 where
  pub answers : (told : Option Files) (files : Files) (script bytes : List ℕ) (a : Answer) → IsFile files file bytes → Over bytes a → Answers r told files script a
  pub comes : (told : Option Files) (files : Files) → ComesTo r told files file
  pub loads : (told : Option Files) (files : Files) (early : Bool) (asked asked' : Option LoadList) → HasMade ((file, limit) ∷ []) asked asked' → LoadsFor r told files (IsTrue early) asked asked'
