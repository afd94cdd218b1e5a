-- What a shelf in memory holds, and what its loads return and change.
use Rattle.std.specs.Prelude.{ℕ, refl, nat_lt, List, length, Option, Some, None, Result, Ok, Err, if◌then◌else◌}
use Rattle.std.specs.FinMap.{empty, get, insert, code}
use Rattle.std.specs.Coded.{Coded, code_by, coded×, coded_list, coded_ℕ, coded_option}
use Rattle.ft_edge.specs.declared.shelf.Load.{Load}
use Rattle.ft_edge.specs.declared.shelf.Load.TheVariants.{Whole, TooLong}
use Rattle.ft_edge.specs.declared.shelf.LoadFault.{LoadFault}
use Rattle.ft_edge.specs.declared.shelf.LoadFault.TheVariants.{Failed, NoMemory}
use Rattle.ft_edge.specs.Calls.{Calls, calls_code, no_calls, is_to_fail, with_failing, after_call, after_failure}
use Rattle.ft_edge.specs.Loads.{Files}

-- the files, the loads as calls, and the name of the last load that failed
pub record MemoryShelf : Type 0 where
  pub files : Files
  pub calls : Calls
  pub failed_name : Option (List ℕ)

-- the encoding of a shelf by its three parts
abbrev pub shelf_code : Coded MemoryShelf
shelf_code =
    code_by (Files × (Calls × Option (List ℕ)))
    (coded× (code (coded_list coded_ℕ) (coded_list coded_ℕ)) (coded× calls_code (coded_option (coded_list coded_ℕ))))
    (λ s. (s.files, (s.calls, s.failed_name)))
    (λ p. record { files = p.0; calls = p.1.0; failed_name = p.1.1 }) (λ _. refl)

-- no files, and no loads yet
abbrev pub empty_shelf : MemoryShelf
empty_shelf = record { files = empty; calls = no_calls; failed_name = None }

-- the shelf after the file is stored under its name, in place of any earlier one
abbrev pub with_file : MemoryShelf → List ℕ → List ℕ → MemoryShelf
with_file shelf name bytes = record shelf { files = insert shelf.files name bytes }

-- the shelf, with this number added to the loads that must fail
abbrev pub with_failing_load : MemoryShelf → ℕ → MemoryShelf
with_failing_load shelf number = record shelf { calls = with_failing shelf.calls number }

-- the result of a load that need not fail: a name without a file is a failure
abbrev pub answer_to : Option (List ℕ) → ℕ → Result Load LoadFault
answer_to None limit = Err Failed
answer_to (Some bytes) limit = if nat_lt limit (length bytes) then Ok TooLong else Ok Whole

-- the result of the next load, if there is enough memory
abbrev pub load_answer : MemoryShelf → List ℕ → ℕ → Result Load LoadFault
load_answer shelf name limit = if is_to_fail shelf.calls then Err Failed else answer_to (get shelf.files name) limit

-- the shelf after a failure at this name is counted
abbrev pub after_failure_at : MemoryShelf → List ℕ → MemoryShelf
after_failure_at shelf name = record shelf { calls = after_failure shelf.calls; failed_name = Some name }

-- the shelf after one more load
abbrev pub after_load_call : MemoryShelf → MemoryShelf
after_load_call shelf = record shelf { calls = after_call shelf.calls }

-- the shelf after a load of this name with this result
abbrev pub after_load : MemoryShelf → List ℕ → Result Load LoadFault → MemoryShelf
after_load shelf name (Ok load) = after_load_call shelf
after_load shelf name (Err NoMemory) = after_load_call shelf
after_load shelf name (Err Failed) = after_failure_at (after_load_call shelf) name
