-- What a source in memory holds, and what its takes return and change.
use Rattle.std.specs.Prelude.{ℕ, List, drop, Result, Ok, Err}
use Rattle.ft_edge.specs.declared.failed.Failed.{Failed}
use Rattle.ft_edge.specs.Calls.{Calls, no_calls, with_failing, after_call, after_failed_call}

-- the bytes that are left, and the takes as calls
pub record MemorySource : Type 0 where
  pub left : List ℕ
  pub calls : Calls

-- these bytes are left, and nothing has been taken
abbrev pub source_of_bytes : List ℕ → MemorySource
source_of_bytes bytes = record { left = bytes; calls = no_calls }

-- the source, with this number added to the takes that must fail
abbrev pub with_failing_take : MemorySource → ℕ → MemorySource
with_failing_take source number = record source { calls = with_failing source.calls number }

-- the source after a take with this result
abbrev pub after_take : MemorySource → Result ℕ Failed → MemorySource
after_take source (Ok count) = record { left = drop count source.left; calls = after_call source.calls }
after_take source (Err failed) = record source { calls = after_failed_call source.calls }
