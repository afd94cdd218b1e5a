-- Numbers are read digit by digit.
use Rattle.std.proofs.Common.{◌≡◌, ℕ, ◌+◌, ◌-◌, ◌*◌, ◌/◌, ◌%◌, ◌^◌, ◌<◌, ◌≤◌, true, ◌&&◌, not, List, [], ◌∷◌, ◌++◌}
use Rattle.std.proofs.Common.{Option, Some, None, decimal, nat_lt, nat_le, eqb, sym, ap, ◌∙◌, subst, arith}
use Rattle.std.proofs.Common.{if◌then◌else◌}
use Rattle.std.specs.Option.{option_map, option_and_then}
use Rattle.std.proofs.lemmas.Bool.{and_parts, and_from, leb-true, le-leb, ltb-true, lt-ltb, not-true, eqb-false, ne_eqb}
use Rattle.std.proofs.lemmas.Fmt.{decimal_digit, decimal_step, decimal_by_steps}
use Rattle.ft_isa.specs.Words.{IsWord}
use Rattle.ft_isa.specs.Reading.{state_after, is_digit, with_digit}
use Rattle.ft_isa.proofs.Branches.{if_some}
use Rattle.ft_isa.proofs.Readers.{state_after-on}

-- a digit is one of the bytes 48 to 57
pub is_digit-true : (b : ℕ) → is_digit b ≡ true → (48 ≤ b) × (b ≤ 57)
is_digit-true b e =
    let parts = and_parts (nat_le 48 b) (nat_le b 57) e in
    (leb-true 48 b parts.0, leb-true b 57 parts.1)

-- each of the bytes 48 to 57 is a digit
pub is_digit-from : (d : ℕ) → d < 10 → is_digit (48 + d) ≡ true
is_digit-from d h = and_from (nat_le 48 (48 + d)) (nat_le (48 + d) 57) (le-leb 48 (48 + d) (omega arith))
    (le-leb (48 + d) 57 (omega arith))

-- the text of what has been read of a number
abbrev pub number_told : Option ℕ → List ℕ
number_told None = []
number_told (Some n) = decimal n

-- a number that was read is a word
abbrev pub IsNumberRead : Option ℕ → Type 0
IsNumberRead None = Unit {0}
IsNumberRead (Some n) = IsWord n

-- the number after one more byte, as a state
abbrev pub next_number : Option ℕ → ℕ → Option (Option ℕ)
next_number number byte = option_map Some (with_digit number byte)

-- a byte that continues a number is a digit
pub taken_digit : (number : Option ℕ) (b n : ℕ) → with_digit number b ≡ Some n → (48 ≤ b) × (b ≤ 57)
taken_digit None b n e = is_digit-true b (if_some (is_digit b) (b - 48) n e).0
taken_digit (Some m) b n e =
    is_digit-true b (and_parts (is_digit b) (not (eqb m 0))
    (and_parts (is_digit b && not (eqb m 0)) (nat_lt (m * 10 + (b - 48)) (2 ^ 64))
    (if_some (is_digit b && not (eqb m 0) && nat_lt (m * 10 + (b - 48)) (2 ^ 64)) (m * 10 + (b - 48)) n e).0).0).0

-- a number with one more digit is written with that digit at its end, and is a word
pub more_digits : (number : Option ℕ) (b n : ℕ) → IsNumberRead number → with_digit number b ≡ Some n →
    (decimal n ≡ number_told number ++ b ∷ []) × IsWord n
more_digits None b n g e =
    let t = if_some (is_digit b) (b - 48) n e in
    let d = is_digit-true b t.0 in
    let value : n ≡ b - 48 = sym t.1 in
    let one : decimal n ≡ (48 + n) ∷ [] = decimal_digit n (omega (arith, d.0, d.1)) in
    let same : 48 + n ≡ b = omega (arith, d.0, d.1) in
    (one ∙ ap (λ x. x ∷ []) same, omega (arith, d.0, d.1))
more_digits (Some m) b n g e =
    let t = if_some (is_digit b && not (eqb m 0) && nat_lt (m * 10 + (b - 48)) (2 ^ 64)) (m * 10 + (b - 48)) n e in
    let outer = and_parts (is_digit b && not (eqb m 0)) (nat_lt (m * 10 + (b - 48)) (2 ^ 64)) t.0 in
    let inner = and_parts (is_digit b) (not (eqb m 0)) outer.0 in
    let d = is_digit-true b inner.0 in
    let nonzero = eqb-false m 0 (not-true (eqb m 0) inner.1) in
    let word : n < 2 ^ 64 = subst (λ (x : ℕ). x < 2 ^ 64) t.1 (ltb-true (m * 10 + (b - 48)) (2 ^ 64) outer.1) in
    let value : n ≡ m * 10 + (b - 48) = sym t.1 in
    let ten : 10 ≤ n = omega (arith, d.0, d.1, nonzero) in
    let front : n / 10 ≡ m = omega (arith, d.0, d.1) in
    let last : 48 + n % 10 ≡ b = omega (arith, d.0, d.1) in
    let step : decimal n ≡ decimal (n / 10) ++ (48 + n % 10) ∷ [] = decimal_step n ten word in
    (step ∙ ap (λ x. decimal x ++ (48 + n % 10) ∷ []) front ∙ ap (λ x. decimal m ++ x ∷ []) last, word)

-- a single digit is read as the number that it spells
pub first_digit : (n : ℕ) → n < 10 → with_digit None (48 + n) ≡ Some n
first_digit n h = ap (λ t. if t then Some (48 + n - 48) else None) (is_digit-from n h) ∙ ap Some (omega arith)

-- reading the last digit of a number after the digits before it completes the number
pub last_digit : (n : ℕ) → 10 ≤ n → IsWord n → with_digit (Some (n / 10)) (48 + n % 10) ≡ Some n
last_digit n ten word =
    let m = n / 10 in
    let d = n % 10 in
    let value : n / 10 * 10 + (48 + n % 10 - 48) ≡ n = omega arith in
    let below : n / 10 * 10 + (48 + n % 10 - 48) < 2 ^ 64 = omega arith in
    let nonzero : not (eqb (n / 10) 0) ≡ true = ap not (ne_eqb (n / 10) 0 (λ e. omega arith)) in
    let test : (is_digit (48 + n % 10) && not (eqb (n / 10) 0) && nat_lt (n / 10 * 10 + (48 + n % 10 - 48)) (2 ^ 64))
    ≡ true =
    and_from (is_digit (48 + n % 10) && not (eqb (n / 10) 0)) (nat_lt (n / 10 * 10 + (48 + n % 10 - 48)) (2 ^ 64))
    (and_from (is_digit (48 + n % 10)) (not (eqb (n / 10) 0)) (is_digit-from (n % 10) (omega arith)) nonzero)
    (lt-ltb (n / 10 * 10 + (48 + n % 10 - 48)) (2 ^ 64) below) in
    ap (λ t. if t then Some (n / 10 * 10 + (48 + n % 10 - 48)) else None) test ∙ ap Some value

-- the state after one byte, given the number that the byte made, if any
abbrev state_after_one : Option ℕ → Option (Option ℕ)
state_after_one o = option_and_then (λ after. Some after) (option_map Some o)

-- the digits of a word are read as that word
pub reads_decimal : (n : ℕ) → IsWord n → state_after next_number None (decimal n) ≡ Some (Some n)
reads_decimal n word =
    decimal_by_steps (λ m ds. IsWord m → state_after next_number None ds ≡ Some (Some m))
    (λ m h w. ap (λ o. state_after_one o) (first_digit m h))
    (λ m ds ten front w.
    state_after-on next_number None (Some (m / 10)) ds ((48 + m % 10) ∷ []) (front (omega arith))
    ∙ ap (λ o. state_after_one o) (last_digit m ten w))
    n word word
