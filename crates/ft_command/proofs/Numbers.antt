-- The number of turns that a word spells in decimal digits.
use Rattle.std.proofs.Common.{◌≡◌, ℕ, zero, suc, ◌<◌, ◌≤◌, ◌^◌, Bool, true, false, Option, Some, None, refl, sym, ap}
use Rattle.std.proofs.Common.{◌∙◌, arith}
use Rattle.std.specs.Prelude.{decimal, if◌then◌else◌, IfSome}
use Rattle.std.specs.Str.{bytes_eq}
use Rattle.std.proofs.lemmas.Fmt.{decimal_injective}
use Rattle.std.proofs.lemmas.Slice.Eq.{bytes_eq-Decides}
use Rattle.ft_isa.specs.PlanText.{IsNumberText}
use Rattle.ft_command.specs.Options.{Word}
use Rattle.ft_command.specs.Commands.{turns_up_to}

found_at : (most n : ℕ) (text : Word) (b : Bool) → bytes_eq text (decimal (suc most)) ≡ b → suc most < 2 ^ 64 →
    n ≤ suc most → text ≡ decimal n
    → (n ≤ most → turns_up_to most text ≡ Some n) → (if b then Some (suc most) else turns_up_to most text) ≡ Some n
found_at most n text true e few within is rest =
    let same = (bytes_eq-Decides text (decimal (suc most))).0 e in
    let one : suc most ≡ n = decimal_injective (suc most) n few (omega (arith, few, within)) (sym same ∙ is) in
    ap Some one
found_at most n text false e few within is rest =
    let other : n ≡ suc most → ⊥ = λ h. (let s = (bytes_eq-Decides text (decimal (suc most))).1 (is ∙ ap decimal h) in
    absurd cc) in
    rest (omega (arith, within, other))

-- if a word spells a number from 1 to the maximum, that number is found
pub turns_found : (most n : ℕ) (text : Word) → most < 2 ^ 64 → 1 ≤ n → n ≤ most → text ≡ decimal n →
    turns_up_to most text ≡ Some n
unfolding turns_up_to
turns_found zero n text few some within is = absurd (omega (arith, some, within))
turns_found (suc most) n text few some within is =
    found_at most n text (bytes_eq text (decimal (suc most))) refl few within is (λ h.
    turns_found most n text (omega (arith, few)) some h is)

none_at : (most : ℕ) (text : Word) (b : Bool) → bytes_eq text (decimal (suc most)) ≡ b →
    ((n : ℕ) → 1 ≤ n → n ≤ suc most → text ≡ decimal n → ⊥)
    → turns_up_to most text ≡ None → (if b then Some (suc most) else turns_up_to most text) ≡ None
none_at most text true e none rest = absurd (none (suc most) (omega arith) (omega arith)
    ((bytes_eq-Decides text (decimal (suc most))).0 e))
none_at most text false e none rest = rest

-- if a word spells no such number, none is found
pub no_turns : (most : ℕ) (text : Word) → ((n : ℕ) → 1 ≤ n → n ≤ most → text ≡ decimal n → ⊥) → turns_up_to most text
    ≡ None
unfolding turns_up_to
no_turns zero text none = refl
no_turns (suc most) text none =
    none_at most text (bytes_eq text (decimal (suc most))) refl none (no_turns most text (λ n some within.
    none n some (omega (arith, within))))

within_at : (most : ℕ) (b : Bool) (x : Option ℕ) → IfSome x (λ n. (1 ≤ n) × (n ≤ most)) →
    IfSome (if b then Some (suc most) else x) (λ n. (1 ≤ n) × (n ≤ suc most))
within_at most true x h = (omega arith, omega arith)
within_at most false None h = tt
within_at most false (Some n) h = (h.0, (let le = h.1 in omega (arith, le)))

-- a number that is found is from 1 to the maximum
pub turns_within : (most : ℕ) (text : Word) → IfSome (turns_up_to most text) (λ n. (1 ≤ n) × (n ≤ most))
unfolding turns_up_to
turns_within zero text = tt
turns_within (suc most) text = within_at most (bytes_eq text (decimal (suc most))) (turns_up_to most text)
    (turns_within most text)

-- a word that spells a number out of range spells none within it
pub out_of_range : (t : ℕ) (text : Word) → IsNumberText text t → (1 ≤ t → t ≤ 10921 → ⊥) → turns_up_to 10921 text ≡ None
out_of_range t text h out =
    no_turns 10921 text (λ n some within is. (
    let one : t ≡ n = decimal_injective t n h.0 (omega (arith, within)) (sym h.1 ∙ is) in
    out (omega (arith, one, some)) (omega (arith, one, within))))
