-- What a load of a file returns, and what the vector holds afterwards.
use Rattle.std.specs.Prelude.{◌≡◌, ℕ, ◌≤◌, ◌<◌, List, [], length, Option, Some, Result, Ok, Err, IfSome}
use Rattle.std.specs.Ordering.{nat_cmp}
use Rattle.std.specs.Cmp.Lexicographic.{slice_cmp}
use Rattle.std.specs.FinMap.{FinMap, get}
use Rattle.ft_edge.specs.declared.shelf.Load.{Load}
use Rattle.ft_edge.specs.declared.shelf.Load.TheVariants.{Whole, TooLong}
use Rattle.ft_edge.specs.declared.shelf.LoadFault.{LoadFault}

-- files by the bytes of their names
abbrev pub Files : Type 0
Files = FinMap (slice_cmp nat_cmp) (List ℕ)

-- the file with this name is longer than the limit
pub record IsLonger (files : Files) (name : List ℕ) (limit : ℕ) : Type 0 where
  pub bytes : List ℕ
  pub found : get files name ≡ Some bytes
  pub longer : limit < length bytes

-- what the vector holds afterwards: the whole file, which is within the limit, or nothing
abbrev pub Loads : Option Files → List ℕ → ℕ → List ℕ → Result Load LoadFault → Type 0
Loads files name limit into (Ok Whole) = (length into ≤ limit) × IfSome files (λ fs. get fs name ≡ Some into)
Loads files name limit into (Ok TooLong) = (into ≡ []) × IfSome files (λ fs. IsLonger fs name limit)
Loads files name limit into (Err e) = into ≡ []

-- likewise for a load from one stream, if it reveals its bytes
abbrev pub LoadsStream : Option (List ℕ) → ℕ → List ℕ → Result Load LoadFault → Type 0
LoadsStream known limit into (Ok Whole) = (length into ≤ limit) × IfSome known (λ bytes. into ≡ bytes)
LoadsStream known limit into (Ok TooLong) = (into ≡ []) × IfSome known (λ bytes. limit < length bytes)
LoadsStream known limit into (Err e) = into ≡ []
