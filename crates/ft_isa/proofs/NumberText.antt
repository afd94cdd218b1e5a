-- A number text is read as its number.
use Rattle.std.proofs.Common.{◌≡◌, ℕ, List, [], ◌∷◌, ◌++◌, Option, Some, None, refl, ap, ◌∙◌, subst, decimal, lit<}
use Rattle.std.specs.Option.{option_and_then}
use Rattle.std.proofs.lemmas.List.{append-nil}
use Rattle.ft_isa.specs.Words.{IsWord}
use Rattle.ft_isa.specs.PlanText.{IsNumberText, IsViable}
use Rattle.ft_isa.specs.Reading.{state_after, with_digit}
use Rattle.ft_isa.proofs.NumberRead.{next_number, number_told, IsNumberRead, more_digits, reads_decimal}
use Rattle.ft_isa.proofs.Branches.{of_map}
use Rattle.ft_isa.proofs.Readers.{IsReader}

-- the number that was read completely: any number that was read is complete
abbrev pub whole_number : Option ℕ → Option ℕ
whole_number number = number

number_step : (s t : Option ℕ) (b : ℕ) → IsNumberRead s → next_number s b ≡ Some t →
    (number_told t ≡ number_told s ++ b ∷ []) × IsNumberRead t
number_step s t b good e =
    let made = of_map Some (with_digit s b) t e in
    let more = more_digits s b made.0 good made.1.0 in
    subst (λ (u : Option ℕ). (number_told u ≡ number_told s ++ b ∷ []) × IsNumberRead u) made.1.1 more

number_ends : (s : Option ℕ) (n : ℕ) → IsNumberRead s → s ≡ Some n → IsNumberText (number_told s) n
number_ends None n good e = absurd (cc)
number_ends (Some m) n good e = let same : m ≡ n = cc in (subst IsWord same good, ap decimal same)

number_goes_on : (s : Option ℕ) → IsNumberRead s → IsViable IsNumberText (number_told s)
number_goes_on None good = (0, (decimal 0, (lit< tt, refl)))
number_goes_on (Some n) good = (n, ([], (good, append-nil (decimal n))))

number_complete : (xs : List ℕ) (n : ℕ) → IsNumberText xs n →
    option_and_then whole_number (state_after next_number None xs) ≡ Some n
number_complete xs n h = ap (λ ys. option_and_then whole_number (state_after next_number None ys)) h.1
    ∙ ap (option_and_then whole_number) (reads_decimal n h.0)

-- the reader of number texts records what it read
pub number_reader : IsReader next_number whole_number None number_told IsNumberRead IsNumberText
number_reader = record {
  begins = refl;
  good = tt;
  step = number_step;
  ends = number_ends;
  goes_on = number_goes_on;
  complete = number_complete;
}
