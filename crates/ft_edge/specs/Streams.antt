-- What reading from a stream does, if the stream reveals its bytes.
use Rattle.std.specs.Prelude.{◌≡◌, ℕ, ◌-◌, ◌<◌, ◌≤◌, List, length, take, sum, All, Option, Result, Ok, Err}
use Rattle.std.specs.Io.KnownBytes.{Consumes}
use Rattle.ft_edge.specs.Told.{append_told}
use Rattle.ft_edge.specs.Logs.{SourceLog}

-- at most this many bytes were read
abbrev pub ConsumesAtMost : Option (List ℕ) → Option (List ℕ) → ℕ → Type 0
ConsumesAtMost old new most = (bytes : List ℕ) × Consumes old new bytes × (length bytes ≤ most)

-- how many bytes a take returned: none if it failed
abbrev pub given : {E : Type 0} → Result ℕ E → ℕ
given (Ok count) = count
given (Err e) = 0

-- every take but the last returned at least one byte
abbrev pub IsFrugal : List ℕ → Type 0
IsFrugal sizes = All (λ count. 0 < count) (take (length sizes - 1) sizes)

-- takes of these sizes took at most `most` bytes in all, and none came after an empty take
pub record TakesAtMost (most : ℕ) (old new : SourceLog) : Type 0 where
  pub bytes : List ℕ
  pub sizes : List ℕ
  pub taken : Consumes old.left new.left bytes
  pub few : length bytes ≤ most
  pub made : new.takes ≡ append_told old.takes sizes
  pub together : sum sizes ≡ length bytes
  pub frugal : IsFrugal sizes
