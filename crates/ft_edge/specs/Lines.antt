-- Lines that a call writes, each with one put, and how such a call ends.
use Rattle.std.specs.Prelude.{◌≡◌, ℕ, ◌≤◌, List, [], ◌∷◌, ◌++◌, Result, Ok, Err}
use Rattle.std.specs.List.{concat}
use Rattle.std.specs.Io.KnownBytes.{append_known}
use Rattle.ft_edge.specs.Causes.{Rose, AddsPrefix}
use Rattle.ft_edge.specs.Told.{append_told}
use Rattle.ft_edge.specs.Logs.{SinkLog}

-- a sink's record after these lines were put, each as one piece
abbrev pub with_lines : List (List ℕ) → SinkLog → SinkLog
with_lines lines log = record { written = append_known log.written (concat lines); pieces = append_told log.pieces lines; failures = log.failures }

-- the put of a line failed: a prefix of the line was added, the line was the next piece, and the count of failures rose
pub record FailsPut (line : List ℕ) (old new : SinkLog) : Type 0 where
  pub written : AddsPrefix old.written new.written line
  pub pieces : new.pieces ≡ append_told old.pieces (line ∷ [])
  pub count : old.failures ≤ new.failures
  pub rose : Rose old.failures new.failures

-- the first lines, if any, were put; the put of the next one failed, and no other followed
pub record BreaksOff (lines : List (List ℕ)) (old new : SinkLog) : Type 0 where
  pub done : List (List ℕ)
  pub line : List ℕ
  pub rest : List (List ℕ)
  pub whole : lines ≡ done ++ line ∷ rest
  pub fails : FailsPut line (with_lines done old) new

-- how a call that writes lines ends: all were put, the put of one failed, or the call gave up before the first put
pub data PutEnd : Type 0 where
  AllPut : PutEnd
  PutFailed : PutEnd
  NothingPut : PutEnd

-- how the sink's record changes in a call that ends like this
abbrev pub Puts : PutEnd → List (List ℕ) → SinkLog → SinkLog → Type 0
Puts AllPut lines old new = new ≡ with_lines lines old
Puts PutFailed lines old new = BreaksOff lines old new
Puts NothingPut lines old new = new ≡ old

-- how a call ends, if it returns an error exactly when a put failed
abbrev pub end_of_puts : {A E : Type 0} → Result A E → PutEnd
end_of_puts (Ok done) = AllPut
end_of_puts (Err failed) = PutFailed
