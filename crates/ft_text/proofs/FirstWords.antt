-- Words of a line: what a text begins with, and where its first space is.
use Rattle.std.proofs.Common.{◌≡◌, ◌≢◌, ℕ, suc, ◌+◌, ◌-◌, ◌≤◌, ◌==◌, Bool, true, false, cond, not, List, [], ◌∷◌, ◌++◌}
use Rattle.std.proofs.Common.{length, take, drop, get_or, Option, Some, None, Bor, codes, nat_lt, refl, ap, sym, ◌∙◌}
use Rattle.std.proofs.Common.{append_assoc, arith}
use Rattle.std.specs.Prelude.{All, MatchOption, position}
use Rattle.std.specs.List.{position_or_len, AllByRecursion}
use Rattle.std.specs.Str.{bytes_eq}
use Rattle.std.proofs.Math.Seq.{split_at, take-append_seam, drop-append-add}
use Rattle.std.proofs.lemmas.Bool.{true≢false, eqb-true, ne_eqb, lt-ltb}
use Rattle.std.proofs.lemmas.List.{take-append-drop, take_rest, length-append}
use Rattle.std.proofs.lemmas.List.Elements.{recursion_from_All, All-from_recursion}
use Rattle.std.proofs.lemmas.List.Quantifiers.{position-Some}
use Rattle.std.proofs.lemmas.Slice.Eq.{bytes_eq-Decides}
use Rattle.ft_text.proofs.Texts.{missing}

-- if a text begins with a piece, it is that piece and then the rest
pub begins : (text piece : List ℕ) → bytes_eq (take (length piece) text) piece ≡ true → text ≡ piece
    ++ drop (length piece) text
begins text piece e = sym (take-append-drop (length piece) text)
    ∙ ap (λ l. l ++ drop (length piece) text) ((bytes_eq-Decides _ _).0 e)

-- if a text does not begin with a piece, it is not that piece followed by anything
pub begins_not : (text piece : List ℕ) → bytes_eq (take (length piece) text) piece ≡ false → (rest : List ℕ) →
    text ≢ piece ++ rest
begins_not text piece e rest h =
    let front : take (length piece) text ≡ piece = ap (take (length piece)) h ∙ take-append_seam piece rest in
    true≢false (sym ((bytes_eq-Decides _ _).1 front) ∙ e)

-- whether a byte is a space
abbrev pub is_space : ℕ → Bool
is_space byte = byte == 32

-- a text without a space
abbrev pub HasNoSpace : List ℕ → Type 0
HasNoSpace text = All (λ byte. byte ≢ 32) text

-- if a text without a space is followed by a space, that space is the first
spaces_after : (a b : List ℕ) → AllByRecursion (λ byte. byte ≢ 32) a → position_or_len is_space (a ++ 32 ∷ b) ≡ length a
spaces_after [] b h = refl
spaces_after (x ∷ a) b h = ap (λ t. cond (not t) (1 + position_or_len is_space (a ++ 32 ∷ b)) 0) (ne_eqb x 32 h.0)
    ∙ ap (λ n. 1 + n) (spaces_after a b h.1) ∙ (omega arith)

-- the place of the first space of such a text
pub first_space : (a b : List ℕ) → HasNoSpace a → position is_space (a ++ 32 ∷ b) ≡ Some (length a)
first_space a b h =
    let at = spaces_after a b (recursion_from_All (λ byte. byte ≢ 32) a h) in
    let below : nat_lt (length a) (length (a ++ 32 ∷ b))
    ≡ true = lt-ltb (length a) (length (a ++ 32 ∷ b)) (omega (arith, length-append a (32 ∷ b))) in
    ap (λ n. cond (nat_lt n (length (a ++ 32 ∷ b))) (Some n) None) at ∙ ap (λ t. cond t (Some (length a)) None) below

-- a text is what comes before its first space, that space, and what comes after it
pub split_there : (text : List ℕ) (at : ℕ) → position is_space text ≡ Some at → text ≡ take at text ++ codes " "
    ++ take (length text - (at + 1)) (drop (at + 1) text)
split_there text at e =
    let h = position-Some is_space text at 0 e in
    let next : suc at ≡ at + 1 = omega arith in
    split_at text at 0 h.0
    ∙ ap (λ b. take at text ++ b ∷ drop (suc at) text) (eqb-true (get_or text at 0) 32 h.1)
    ∙ ap (λ n. take at text ++ 32 ∷ drop n text) next
    ∙ ap (λ l. take at text ++ 32 ∷ l) (sym (take_rest text (at + 1)))
    ∙ sym (append_assoc (take at text) (32 ∷ []) (take (length text - (at + 1)) (drop (at + 1) text)))

-- it can be split at its first space in no other way
pub split_only : (text : List ℕ) (at : ℕ) (a b : List ℕ) → position is_space text ≡ Some at → HasNoSpace a → text ≡ a
    ++ codes " " ++ b → (take at text ≡ a) × (take (length text - (at + 1)) (drop (at + 1) text) ≡ b)
split_only text at a b e h i =
    let whole : text ≡ a ++ 32 ∷ b = i ∙ append_assoc a (32 ∷ []) b in
    let there : Some at ≡ Some (length a) = sym e ∙ ap (position is_space) whole ∙ first_space a b h in
    let place : at ≡ length a = cc in (
      ap (λ n. take n text) place ∙ ap (take (length a)) whole ∙ take-append_seam a (32 ∷ b),
      take_rest text (at + 1) ∙ ap (λ n. drop (n + 1) text) place ∙ ap (drop (length a + 1)) whole
          ∙ drop-append-add a (32 ∷ b) 1,
    )

-- a text without a space cannot be split like this
pub split_never : (text a b : List ℕ) → position is_space text ≡ None → HasNoSpace a → text ≡ a ++ codes " " ++ b → ⊥
split_never text a b e h i =
    let found : None ≡ Some (length a) = sym e ∙ ap (position is_space) (i ∙ append_assoc a (32 ∷ []) b)
    ∙ first_space a b h in
    absurd (cc)

-- a text has only one first word
pub one_split : (text a b c d : List ℕ) → HasNoSpace a → HasNoSpace c → text ≡ a ++ codes " " ++ b → text ≡ c
    ++ codes " " ++ d → (a ≡ c) × (b ≡ d)
one_split text a b c d ha hc e f =
    let at : position (λ byte. byte == 32) text ≡ Some (length a) = ap (position (λ byte. byte == 32)) (e
    ∙ append_assoc a (32 ∷ []) b) ∙ first_space a b ha in
    let x = split_only text (length a) a b at ha e in
    let y = split_only text (length a) c d at hc f in
    (sym x.0 ∙ y.0, sym x.1 ∙ y.1)

-- in a text without a space, the search passes all bytes
spaces_none : (a : List ℕ) → AllByRecursion (λ byte. byte ≢ 32) a → position_or_len is_space a ≡ length a
spaces_none [] h = refl
spaces_none (x ∷ a) h = ap (λ t. cond (not t) (1 + position_or_len is_space a) 0) (ne_eqb x 32 h.0)
    ∙ ap (λ n. 1 + n) (spaces_none a h.1) ∙ (omega arith)

-- no space is found in a text without one
pub no_space_found : (a : List ℕ) → HasNoSpace a → position is_space a ≡ None
no_space_found a h = ap (λ n. cond (nat_lt n (length a)) (Some n) None)
    (spaces_none a (recursion_from_All (λ byte. byte ≢ 32) a h))
    ∙ ap (λ t. cond t (Some (length a)) None) (not_below (length a))
  where
    not_below : (n : ℕ) → nat_lt n n ≡ false
    not_below n = grind arith

-- cases: whether the first byte is a space
step_free : (t : Bool) (x : ℕ) (a : List ℕ) (p : ℕ) → (x == 32) ≡ t →
    (length a ≤ p → AllByRecursion (λ byte. byte ≢ 32) a) → length (x ∷ a) ≤ cond (not t) (1 + p) 0 →
    AllByRecursion (λ byte. byte ≢ 32) (x ∷ a)
step_free true x a p e h le = absurd (omega arith)
step_free false x a p e h le = (λ is. true≢false (sym (ap (λ n. n == 32) is) ∙ e), h (omega arith))

-- if the search passes all bytes, the text has no space
free_by_length : (a : List ℕ) → length a ≤ position_or_len is_space a → AllByRecursion (λ byte. byte ≢ 32) a
free_by_length [] le = tt
free_by_length (x ∷ a) le = step_free (x == 32) x a (position_or_len is_space a) refl (free_by_length a) le

-- if no space is found, the text has none
pub found_no_space : (a : List ℕ) → position is_space a ≡ None → HasNoSpace a
found_no_space a e =
    let past : length a ≤ position_or_len is_space a =
    grind (arith, missing (nat_lt (position_or_len is_space a) (length a)) (position_or_len is_space a) e) in
    All-from_recursion (λ byte. byte ≢ 32) a (free_by_length a past)

-- what follows a piece, if the text begins with it
pub after_by_cases : (text piece : List ℕ) (r : Option (Bor (List ℕ)))
    → MatchOption r (bytes_eq (take (length piece) text) piece ≡ false) (λ x.
    (bytes_eq (take (length piece) text) piece ≡ true) × (x.now ≡ drop (length piece) text)
    × (length x.now + length piece ≡ length text))
    → MatchOption r ((rest : List ℕ) → text ≢ piece ++ rest) (λ rest. text ≡ piece ++ rest.now)
after_by_cases text piece None h = begins_not text piece h
after_by_cases text piece (Some x) h = begins text piece h.0 ∙ ap (λ l. piece ++ l) (sym h.1)
