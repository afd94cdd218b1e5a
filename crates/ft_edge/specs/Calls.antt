-- Calls numbered from 0, those that must fail, and the count of failures.
use Rattle.std.specs.Prelude.{ℕ, refl, ◌+◌, ◌-◌, ◌^◌, ◌==◌, min, Bool, List, [], ◌∷◌, ◌++◌}
use Rattle.std.specs.List.{list_any}
use Rattle.std.specs.Coded.{Coded, code_by, coded×, coded_list, coded_ℕ}

-- the numbers of the calls that must fail, the number of the next call, and how many calls failed
pub record Calls : Type 0 where
  pub failing : List ℕ
  pub next : ℕ
  pub failures : ℕ

-- the encoding of calls by their three parts
abbrev pub calls_code : Coded Calls
calls_code =
    code_by (List ℕ × (ℕ × ℕ)) (coded× (coded_list coded_ℕ) (coded× coded_ℕ coded_ℕ)) (λ c. (c.failing, (c.next, c.failures)))
    (λ p. record { failing = p.0; next = p.1.0; failures = p.1.1 }) (λ _. refl)

-- no calls yet, and none that must fail
abbrev pub no_calls : Calls
no_calls = record { failing = []; next = 0; failures = 0 }

-- one more than a count, saturating at 2^64 - 1
abbrev pub next_count : ℕ → ℕ
next_count n = min (n + 1) (2 ^ 64 - 1)

-- whether the next call must fail
abbrev pub is_to_fail : Calls → Bool
is_to_fail calls = list_any (λ number. number == calls.next) calls.failing

-- the calls, with this number added to those that must fail
abbrev pub with_failing : Calls → ℕ → Calls
with_failing calls number = record calls { failing = calls.failing ++ number ∷ [] }

-- the calls after one more
abbrev pub after_call : Calls → Calls
after_call calls = record calls { next = next_count calls.next }

-- the calls after one more failure is counted
abbrev pub after_failure : Calls → Calls
after_failure calls = record calls { failures = next_count calls.failures }

-- the calls after one more that fails
abbrev pub after_failed_call : Calls → Calls
after_failed_call calls = after_failure (after_call calls)
