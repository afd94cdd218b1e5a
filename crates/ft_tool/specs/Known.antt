-- Which files and which script a call may have had, given what its loads and takes returned.
use Rattle.std.specs.Prelude.{◌≡◌, ℕ, List, [], ◌∷◌, ◌++◌, Option, Some}
use Rattle.ft_edge.specs.Loads.{Files}
use Rattle.ft_edge.specs.Logs.{ShelfLog}

-- the bytes of reads, in order, given the reads with the newest first
abbrev pub joined : List (List ℕ) → List ℕ
joined [] = []
joined (bytes ∷ reads) = joined reads ++ bytes

-- what may be told of a call's files: what the shelf reveals, or any files that agree with all that it returned
pub data MayHold (known : Option Files) (Agrees : Files → Type 0) (told : Option Files) : Type 0 where
  revealed : told ≡ known → MayHold known Agrees told
  heard : (files : Files) → told ≡ Some files → Agrees files → MayHold known Agrees told

-- this holds for all that may be told of the files
abbrev pub ForFiles : Option Files → (Files → Type 0) → (Option Files → Type 0) → Type 0
ForFiles known Agrees Holds = (told : Option Files) → MayHold known Agrees told → Holds told

-- what may be told of a call's script: what the source reveals, or the bytes that the call's reads returned, and then
-- bytes that may be left
pub data MayBegin (known : Option (List ℕ)) (before after : Option (List (List ℕ))) (MayBeLeft : List ℕ → Type 0)
    (left : Option (List ℕ)) : Type 0 where
  is_left : left ≡ known → MayBegin known before after MayBeLeft left
  was_taken : (reads reads' : List (List ℕ)) (rest script : List ℕ) → before ≡ Some reads → after ≡ Some reads'
      → MayBeLeft rest → joined reads ++ script ≡ joined reads' ++ rest → left ≡ Some script
      → MayBegin known before after MayBeLeft left

-- this holds for all that may be told of the script
abbrev pub ForScript : Option (List ℕ) → Option (List (List ℕ)) → Option (List (List ℕ)) → (List ℕ → Type 0)
    → (Option (List ℕ) → Type 0) → Type 0
ForScript known before after MayBeLeft Holds =
    (left : Option (List ℕ)) → MayBegin known before after MayBeLeft left → Holds left

-- the record of a shelf, if these are the files that it reveals
abbrev pub revealing : Option Files → ShelfLog → ShelfLog
revealing told log =
    record { files = told; asked = log.asked; failures = log.failures; failed_name = log.failed_name }
