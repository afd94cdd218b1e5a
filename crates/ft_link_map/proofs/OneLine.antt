-- A line has at most one reading.
use Rattle.std.proofs.Common.{◌≡◌, ◌⊎◌, inl, inr, ⊎_elim, ℕ, ◌^◌, ◌<◌, ◌==◌, true, List, [], ◌∷◌, ◌++◌, decimal, codes}
use Rattle.std.proofs.Common.{refl, ap, sym, ◌∙◌, arith}
use Rattle.std.specs.Prelude.{if◌then◌else◌}
use Rattle.std.specs.List.{AllZip}
use Rattle.std.proofs.lemmas.List.{append_cancel_left}
use Rattle.std.proofs.lemmas.Fmt.{decimal_injective}
use Rattle.ft_text.proofs.FirstWords.{one_split}
use Rattle.ft_link_map.specs.MapLines.{MapLine, Module, Export, Import, Bad, is_block_name, IsWritten, Says}
use Rattle.ft_link_map.proofs.Spaces.{name_no_space}

-- a name and a block can be recovered from their text
one_ask : (a b : List ℕ) (n m : ℕ) → is_block_name a ≡ true → is_block_name b ≡ true → n < 2 ^ 32 → m < 2 ^ 32 → a
    ++ codes " " ++ decimal n ≡ b ++ codes " " ++ decimal m → (a ≡ b) × (n ≡ m)
one_ask a b n m ha hb hn hm e =
    let parts = one_split (a ++ codes " " ++ decimal n) a (decimal n) b (decimal m) (name_no_space a ha)
    (name_no_space b hb) refl e in
    (parts.0, decimal_injective n m (omega (arith, hn)) (omega (arith, hm)) parts.1)

-- the only form that a line can have, as a number, given its first byte
abbrev form_of_text : List ℕ → ℕ
form_of_text [] = 0
form_of_text (byte ∷ bytes) = if byte == 109 then 1 else (if byte == 101 then 2 else 3)

-- the form of a line, as a number
abbrev form_of : MapLine → ℕ
form_of (Module file) = 1
form_of (Export name block) = 2
form_of (Import name block) = 3
form_of Bad = 0

-- the first byte determines the form
form_is : (l : MapLine) (line : List ℕ) → IsWritten l line → form_of_text line ≡ form_of l
form_is (Module file) line h = ap form_of_text h.1
form_is (Export name block) line h = ap form_of_text h.2
form_is (Import name block) line h = ap form_of_text h.2
form_is Bad line h = absurd h

-- two readings of one line in the same form are equal
same_form : (line : List ℕ) (l k : MapLine) → form_of l ≡ form_of k → IsWritten l line → IsWritten k line → l ≡ k
same_form line (Module f) (Module g) e h i = ap Module (append_cancel_left (codes "module ") f g (sym h.1 ∙ i.1))
same_form line (Export a n) (Export b m) e h i =
    let parts = one_ask a b n m h.0 i.0 h.1 i.1 (append_cancel_left (codes "export ") _ _ (sym h.2 ∙ i.2)) in
    ap (λ x. Export x n) parts.0 ∙ ap (Export b) parts.1
same_form line (Import a n) (Import b m) e h i =
    let parts = one_ask a b n m h.0 i.0 h.1 i.1 (append_cancel_left (codes "import ") _ _ (sym h.2 ∙ i.2)) in
    ap (λ x. Import x n) parts.0 ∙ ap (Import b) parts.1
same_form line Bad k e h i = absurd h
same_form line l k e h i = absurd (omega arith)

-- a line is written in at most one form
one_written : (line : List ℕ) (l k : MapLine) → IsWritten l line → IsWritten k line → l ≡ k
one_written line l k h i = same_form line l k (sym (form_is l line h) ∙ form_is k line i) h i

-- a line has the form of its reading, or it is bad and has none
told : (line : List ℕ) (l : MapLine) → Says line l →
    IsWritten l line ⊎ ((l ≡ Bad) × ((k : MapLine) → ¬ (IsWritten k line)))
told line Bad h = inr (refl, h)
told line (Module file) h = inl h
told line (Export name block) h = inl h
told line (Import name block) h = inl h

-- a line has at most one reading
pub one_line : (line : List ℕ) (l k : MapLine) → Says line l → Says line k → l ≡ k
one_line line l k h i =
    ⊎_elim
    (λ (text : IsWritten l line).
    ⊎_elim (λ (other : IsWritten k line). one_written line l k text other)
    (λ (bad : (k ≡ Bad) × ((e : MapLine) → ¬ (IsWritten e line))). absurd (bad.1 l text)) (told line k i))
    (λ (bad : (l ≡ Bad) × ((e : MapLine) → ¬ (IsWritten e line))).
    ⊎_elim (λ (other : IsWritten k line). absurd (bad.1 k other))
    (λ (too : (k ≡ Bad) × ((e : MapLine) → ¬ (IsWritten e line))). bad.0 ∙ sym too.0) (told line k i))
    (told line l h)

-- a list of lines has at most one reading
pub one_list : (lines : List (List ℕ)) (ls ks : List MapLine) → AllZip Says lines ls → AllZip Says lines ks → ls ≡ ks
one_list [] [] [] h i = refl
one_list [] [] (k ∷ ks) h i = absurd i
one_list [] (l ∷ ls) ks h i = absurd h
one_list (t ∷ ts) [] ks h i = absurd h
one_list (t ∷ ts) (l ∷ ls) [] h i = absurd i
one_list (t ∷ ts) (l ∷ ls) (k ∷ ks) h i = ap (λ x. x ∷ ls) (one_line t l k h.0 i.0)
    ∙ ap (λ xs. k ∷ xs) (one_list ts ls ks h.1 i.1)
