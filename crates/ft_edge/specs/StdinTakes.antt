-- What a source over standard input records of its takes.
use Rattle.std.specs.Prelude.{ℕ, List, [], None}
use Rattle.ft_edge.specs.Logs.{SourceLog}

-- how many takes failed, and what the others returned, the newest first
pub record StdinTakes : Type 0 where
  pub failures : ℕ
  pub reads : List (List ℕ)

-- nothing was taken
abbrev pub no_takes : StdinTakes
no_takes = record { failures = 0; reads = [] }

-- as the record of a source that does not reveal its bytes
abbrev pub stdin_log : StdinTakes → SourceLog
stdin_log takes = record { left = None; takes = None; failures = takes.failures }
