-- Adding modules one after the other: private to the tool.
use Rattle.std.specs.Prelude.{◌≡◌, ◌⊎◌, ℕ, ◌+◌, Bool, IsTrue, List, [], ◌∷◌, ◌++◌, length, Option, None}
use Rattle.ft_edge.specs.Logs.{ShelfLog, LoadFails}
use Rattle.ft_edge.specs.Loads.{Files}
use Rattle.ft_types.specs.declared.object.Object.{Object}
use Rattle.ft_typing.specs.Accepted.{refusal}
use Rattle.ft_link_map.specs.declared.link_map.LinkMap.{LinkMap}
use Rattle.ft_linker.specs.Linking.{added_refusal}
use Rattle.ft_command.specs.Options.{Word}
use Rattle.ft_tool.specs.Replies.{Answer, IsToldFile}
use Rattle.ft_tool.specs.Links.{IsMap, EndsAtMap, EndsAtBytes, IsAdded, LinksFiles, ComesInTurn}
use Rattle.ft_tool.specs.Calls.{LoadList, HasMade, LoadsInTurn}

-- the answer to the file of the next module, which ends the link
abbrev pub EndsWithFile : Option Files → List Object → Word → Answer → Type 0
EndsWithFile told modules name a = (bytes : List ℕ) × (IsToldFile told name bytes × EndsAtBytes modules bytes a)

-- the object in the file of the next module was added
abbrev pub AddsFile : Option Files → Word → List Object → List Object → Type 0
AddsFile told name modules modules' = (bytes : List ℕ) × (IsToldFile told name bytes × ((o : Object) × (IsAdded modules bytes o × (modules' ≡ modules ++ o ∷ []))))

-- an object was added
pub record AddsObject (modules : List Object) (o : Object) (modules' : List Object) : Type 0 where
  pub accepted : refusal o ≡ None
  pub unrefused : added_refusal modules o ≡ None
  pub added : modules' ≡ modules ++ o ∷ []

-- these modules of a map were added, and its link ends as the link of the remaining files does
pub record HasAdded (told : Option Files) (linkage : LinkMap) (modules : List Object) (rest : List Word) (asked asked' : Option LoadList) : Type 0 where
  pub loads : LoadList
  pub made : HasMade loads asked asked'
  pub count : length modules + length rest ≡ length linkage.files
  pub answers : (a : Answer) → LinksFiles told linkage modules rest a → LinksFiles told linkage [] linkage.files a
  pub comes : (file : Word) → ComesInTurn told modules rest file → ComesInTurn told [] linkage.files file
  pub in_turn : (early : Bool) (more : LoadList) → LoadsInTurn told (IsTrue early) modules rest more → LoadsInTurn told (IsTrue early) [] linkage.files (loads ++ more)

-- a link got as far as loading a module's file, and that load failed
abbrev pub FailsInTurn : LinkMap → ShelfLog → ShelfLog → Type 0
FailsInTurn linkage old new = (file : Word) × (ComesInTurn old.files [] linkage.files file × LoadFails file old new)

-- the loads of a map's modules that were made, given whether the call ended early
abbrev pub MakesInTurn : Option Files → LinkMap → Bool → Option LoadList → Option LoadList → Type 0
MakesInTurn told linkage early asked asked' = (loads : LoadList) × (LoadsInTurn told (IsTrue early) [] linkage.files loads × HasMade loads asked asked')

-- the loads that were made after a map's text was read: none if the text ends the link or the call ended early;
-- otherwise those of its modules
abbrev pub MakesOfText : Option Files → List ℕ → Bool → Option LoadList → Option LoadList → Type 0
MakesOfText told text early asked asked' =
    ((((a : Answer) × EndsAtMap text a) ⊎ IsTrue early) × HasMade [] asked asked')
    ⊎ ((linkage : LinkMap) × (IsMap text linkage × MakesInTurn told linkage early asked asked'))
