-- What a shelf over a folder records of its loads.
use Rattle.std.specs.Prelude.{ℕ, List, [], Option, None}
use Rattle.ft_history.specs.Files.{HeardFile}
use Rattle.ft_edge.specs.Logs.{ShelfLog}

-- how many loads failed, the name of the last that did, and what was heard of each file, the newest first
pub record FolderFailures : Type 0 where
  pub count : ℕ
  pub failed_name : Option (List ℕ)
  pub heard : List HeardFile

-- no load was made
abbrev pub no_failures : FolderFailures
no_failures = record { count = 0; failed_name = None; heard = [] }

-- as the record of a shelf that does not reveal its files
abbrev pub folder_log : FolderFailures → ShelfLog
folder_log failures = record { files = None; asked = None; failures = failures.count; failed_name = failures.failed_name }
