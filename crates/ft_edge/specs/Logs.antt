-- The records of a sink, a shelf and a source.
use Rattle.std.specs.Prelude.{◌≡◌, ℕ, List, Option, Some, Result, Ok, Err}
use Rattle.ft_edge.specs.Causes.{Rose}
use Rattle.ft_edge.specs.Loads.{Files}
use Rattle.ft_edge.specs.declared.shelf.Load.{Load}
use Rattle.ft_edge.specs.declared.shelf.LoadFault.{LoadFault}
use Rattle.ft_edge.specs.declared.shelf.LoadFault.TheVariants.{Failed, NoMemory}

-- what a sink records: the bytes written; every attempted piece in order, failed ones too, if it records them; and the
-- number of failed puts, which may saturate at 2^64 - 1
pub record SinkLog : Type 0 where
  pub written : Option (List ℕ)
  pub pieces : Option (List (List ℕ))
  pub failures : ℕ

-- what a shelf records: the files, and the name and limit of each load in order, if it records them; the number of
-- failed loads, which may saturate at 2^64 - 1; and the name of the last failed one, if any
pub record ShelfLog : Type 0 where
  pub files : Option Files
  pub asked : Option (List (List ℕ × ℕ))
  pub failures : ℕ
  pub failed_name : Option (List ℕ)

-- the load of this file failed: its name is recorded as the last that failed, and the count of failures rose
abbrev pub LoadFails : List ℕ → ShelfLog → ShelfLog → Type 0
LoadFails name old new = Rose old.failures new.failures × (new.failed_name ≡ Some name)

-- no load failed
abbrev pub NoLoadFails : ShelfLog → ShelfLog → Type 0
NoLoadFails old new = (new.failures ≡ old.failures) × (new.failed_name ≡ old.failed_name)

-- after `Failed`, the name is recorded as the last that failed, and the count has risen or is 2^64 - 1; any other
-- result leaves both unchanged
abbrev pub LoadCause : ShelfLog → ShelfLog → List ℕ → Result Load LoadFault → Type 0
LoadCause old new name (Err Failed) = LoadFails name old new
LoadCause old new name (Err NoMemory) = NoLoadFails old new
LoadCause old new name (Ok load) = NoLoadFails old new

-- what a source records: the bytes that are left, and how many bytes each take returned, in order, if it records them
-- (a failed take returned none); and the number of failed takes, which may saturate at 2^64 - 1
pub record SourceLog : Type 0 where
  pub left : Option (List ℕ)
  pub takes : Option (List ℕ)
  pub failures : ℕ
