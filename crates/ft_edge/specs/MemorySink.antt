-- What a sink in memory holds, and what its puts return and change.
use Rattle.std.specs.Prelude.{ℕ, ◌+◌, nat_lt, Bool, ◌||◌, List, [], ◌++◌, length, Result, Ok, Err}
use Rattle.ft_edge.specs.declared.failed.Failed.{Failed}
use Rattle.ft_edge.specs.Calls.{Calls, no_calls, is_to_fail, with_failing, after_call, after_failed_call}

-- the bytes written, the capacity in bytes, and the puts as calls
pub record MemorySink : Type 0 where
  pub written : List ℕ
  pub room : ℕ
  pub calls : Calls

-- nothing is written yet, and there is this much room
abbrev pub empty_sink : ℕ → MemorySink
empty_sink room = record { written = []; room = room; calls = no_calls }

-- the sink, with this number added to the puts that must fail
abbrev pub with_failing_put : MemorySink → ℕ → MemorySink
with_failing_put sink number = record sink { calls = with_failing sink.calls number }

-- whether the next put of this piece fails: it must fail, or there is too little room left
abbrev pub put_fails : MemorySink → List ℕ → Bool
put_fails sink piece = is_to_fail sink.calls || nat_lt sink.room (length sink.written + length piece)

-- the sink after a put of this piece with this result
abbrev pub after_put : MemorySink → List ℕ → Result (Unit {0}) Failed → MemorySink
after_put sink piece (Ok done) = record sink { written = sink.written ++ piece; calls = after_call sink.calls }
after_put sink piece (Err failed) = record sink { calls = after_failed_call sink.calls }
