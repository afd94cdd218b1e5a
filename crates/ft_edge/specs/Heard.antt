-- What was heard of files, and which files agree with it.
use Rattle.std.specs.Prelude.{◌≡◌, ◌⊎◌, ℕ, ◌<◌, Bool, true, false, List, [], ◌∷◌, ◌++◌, length, Option, Some, Result, Ok, Err}
use Rattle.std.specs.Io.KnownBytes.{Consumes, IsAtEnd}
use Rattle.std.specs.FinMap.{get}
use Rattle.ft_history.specs.Files.{HeardFile, gives, opened}
use Rattle.ft_edge.specs.Loads.{Files, IsLonger}
use Rattle.ft_edge.specs.declared.shelf.Load.{Load}
use Rattle.ft_edge.specs.declared.shelf.Load.TheVariants.{Whole, TooLong}
use Rattle.ft_edge.specs.declared.shelf.LoadFault.{LoadFault}

-- the file with this name has the bytes that were heard, and no more if its end was heard
pub record Fits (files : Files) (file : HeardFile) : Type 0 where
  pub rest : List ℕ
  pub found : get files file.name ≡ Some (file.given ++ rest)
  pub whole : file.ended ≡ true → rest ≡ []

-- the files agree with all that was heard
abbrev pub Agree : List HeardFile → Files → Type 0
Agree [] files = Unit {0}
Agree (file ∷ heard) files = Fits files file × Agree heard files

-- what the result of a load says of files that agree with it
abbrev pub LoadsFrom : Files → List ℕ → ℕ → List ℕ → Result Load LoadFault → Type 0
LoadsFrom files name limit into (Ok Whole) = get files name ≡ Some into
LoadsFrom files name limit into (Ok TooLong) = IsLonger files name limit
LoadsFrom files name limit into (Err e) = Unit {0}

-- reads of the newest file returned these bytes, and found its end or not; its stream lost the same bytes, and ended
-- there, if it reveals its bytes
pub record Hears (bytes : List ℕ) (ended : Bool) (old new : List HeardFile) (before after : Option (List ℕ)) : Type 0 where
  pub heard : new ≡ gives old bytes ended
  pub consumed : Consumes before after bytes
  pub end : ended ≡ true → IsAtEnd after

-- some bytes were heard, and not the end
abbrev pub HeardMore : List HeardFile → List HeardFile → Option (List ℕ) → Option (List ℕ) → Type 0
HeardMore old new before after = (bytes : List ℕ) × Hears bytes false old new before after

-- likewise, and more than the limit
abbrev pub HeardLonger : List HeardFile → List HeardFile → ℕ → Option (List ℕ) → Option (List ℕ) → Type 0
HeardLonger old new limit before after = (bytes : List ℕ) × Hears bytes false old new before after × (limit < length bytes)

-- what a load hears of a file, which has these bytes if they are known: the whole file and its end, or more bytes than
-- the limit. A load that fails may have heard a part
abbrev pub LoadsHeard : Option (List ℕ) → List HeardFile → List HeardFile → List ℕ → ℕ → List ℕ → Result Load LoadFault → Type 0
LoadsHeard known old new name limit into (Ok Whole) = (rest : Option (List ℕ)) × Hears into true (opened old name) new known rest
LoadsHeard known old new name limit into (Ok TooLong) = (rest : Option (List ℕ)) × HeardLonger (opened old name) new limit known rest
LoadsHeard known old new name limit into (Err e) = (new ≡ old) ⊎ ((rest : Option (List ℕ)) × HeardMore (opened old name) new known rest)
