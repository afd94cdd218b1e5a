-- The first word of a text, and the text after it.
use Rattle.std.proofs.Common.{◌≡◌, ℕ, suc, ◌+◌, ◌-◌, ◌<◌, ◌≤◌, Bool, true, false, cond, not, List, [], ◌∷◌, length}
use Rattle.std.proofs.Common.{get_or, take, drop, drop-cons, Some, None, nat_lt, refl, ap, sym, ◌∙◌, subst}
use Rattle.std.proofs.Common.{arith}
use Rattle.std.specs.Prelude.{if◌then◌else◌, position}
use Rattle.std.specs.List.{position_or_len}
use Rattle.std.proofs.lemmas.Bool.{ltb-true, ltb-false, not-true}
use Rattle.std.proofs.lemmas.List.{take_rest, drop_all, length-take-le}
use Rattle.std.proofs.lemmas.List.Quantifiers.{position-Some}
use Rattle.std.proofs.lemmas.Option.{cond_some}
use Rattle.ft_text.specs.Lines.{with_byte}
use Rattle.ft_text.proofs.Texts.{missing}
use Rattle.ft_text.specs.LineWords.{is_blank, pieces_of, with_word, with_bytes, words_of}

-- a word that is not empty is kept
pub kept_word : (w : List ℕ) (ws : List (List ℕ)) → 0 < length w → with_word w ws ≡ w ∷ ws
kept_word [] ws h = absurd (omega arith)
kept_word (b ∷ bs) ws h = refl

abbrev is_part : ℕ → Bool
is_part b = not (is_blank b)

skip_step : (t : Bool) (b : ℕ) (bs : List ℕ) (p : ℕ) → words_of bs ≡ words_of (drop p bs) →
    with_bytes (if t then [] ∷ pieces_of bs else with_byte b (pieces_of bs)) ≡ words_of (b ∷ bs) → words_of (b ∷ bs)
    ≡ words_of (drop (cond (not (not t)) (1 + p) 0) (b ∷ bs))
skip_step true b bs p h same = let next : 1 + p ≡ suc p = omega arith in
    sym same ∙ h ∙ ap (λ n. words_of (drop n (b ∷ bs))) (sym next)
skip_step false b bs p h same = refl

-- blanks before a word are skipped
pub skip : (text : List ℕ) → words_of text ≡ words_of (drop (position_or_len is_part text) text)
skip [] = refl
skip (b ∷ bs) = skip_step (is_blank b) b bs (position_or_len is_part bs) (skip bs) refl

ends_step : (t : Bool) (b : ℕ) (bs : List ℕ) (p : ℕ) →
    (p < length bs → pieces_of bs ≡ take p bs ∷ pieces_of (drop (p + 1) bs)) → cond (not t) (1 + p) 0 < length (b ∷ bs)
    → (if t then [] ∷ pieces_of bs else with_byte b (pieces_of bs))
    ≡ take (cond (not t) (1 + p) 0) (b ∷ bs) ∷ pieces_of (drop (cond (not t) (1 + p) 0 + 1) (b ∷ bs))
ends_step true b bs p h lt = refl
ends_step false b bs p h lt =
    let first : suc p ≡ 1 + p = omega arith in
    let next : suc (p + 1) ≡ 1 + p + 1 = omega arith in
    ap (with_byte b) (h (omega arith)) ∙ ap (λ m. take m (b ∷ bs) ∷ pieces_of (drop (suc (p + 1)) (b ∷ bs))) first
    ∙ ap (λ m. take (1 + p) (b ∷ bs) ∷ pieces_of (drop m (b ∷ bs))) next

-- the first piece ends at the first blank
piece_ends : (text : List ℕ) → position_or_len is_blank text < length text → pieces_of text
    ≡ take (position_or_len is_blank text) text ∷ pieces_of (drop (position_or_len is_blank text + 1) text)
piece_ends [] lt = absurd (omega arith)
piece_ends (b ∷ bs) lt = ends_step (is_blank b) b bs (position_or_len is_blank bs) (piece_ends bs) lt

only_step : (t : Bool) (b : ℕ) (bs : List ℕ) (p : ℕ) → (length bs ≤ p → pieces_of bs ≡ bs ∷ []) →
    length (b ∷ bs) ≤ cond (not t) (1 + p) 0 → (if t then [] ∷ pieces_of bs else with_byte b (pieces_of bs))
    ≡ (b ∷ bs) ∷ []
only_step true b bs p h le = absurd (omega arith)
only_step false b bs p h le = ap (with_byte b) (h (omega arith))

-- a text without a blank is one piece
only_piece : (text : List ℕ) → length text ≤ position_or_len is_blank text → pieces_of text ≡ text ∷ []
only_piece [] le = refl
only_piece (b ∷ bs) le = only_step (is_blank b) b bs (position_or_len is_blank bs) (only_piece bs) le

-- a text of blanks has no word
pub no_word : (text : List ℕ) → position is_part text ≡ None → words_of text ≡ []
no_word text e =
    let past = ltb-false (position_or_len is_part text) (length text)
    (missing (nat_lt (position_or_len is_part text) (length text)) (position_or_len is_part text) e) in
    skip text ∙ ap words_of (drop_all (position_or_len is_part text) text past)

-- starting at the first byte of a word keeps the words
pub from_word : (text : List ℕ) (start : ℕ) → position is_part text ≡ Some start → words_of text
    ≡ words_of (drop start text)
from_word text start e = skip text ∙ ap (λ n. words_of (drop n text))
    (cond_some (nat_lt (position_or_len is_part text) (length text)) (position_or_len is_part text) start e).1

-- that byte exists, and is not a blank
pub begins_word : (text : List ℕ) (start : ℕ) → position is_part text ≡ Some start → (x : ℕ) × (xs : List ℕ)
    × (drop start text ≡ x ∷ xs) × (is_blank x ≡ false)
begins_word text start e =
    let h = position-Some is_part text start 0 e in (
      get_or text start 0,
      drop (suc start) text,
      drop-cons text start 0 h.0,
      not-true (is_blank (get_or text start 0)) h.1,
    )

-- a byte that is no blank belongs to the word
pub some_step : (t : Bool) (p : ℕ) → t ≡ false → 0 < cond (not t) (1 + p) 0
some_step true p e = absurd cc
some_step false p e = omega arith

-- if the first word ends at a blank, the words of the text are this word and those after the blank
pub word_ends : (text : List ℕ) (x : ℕ) (xs : List ℕ) (at : ℕ) → text ≡ x ∷ xs → is_blank x ≡ false →
    position is_blank text ≡ Some at → words_of text
    ≡ take at text ∷ words_of (take (length text - (at + 1)) (drop (at + 1) text))
word_ends text x xs at e f g =
    let h = cond_some (nat_lt (position_or_len is_blank text) (length text)) (position_or_len is_blank text) at g in
    let below : position_or_len is_blank text < length text =
    ltb-true (position_or_len is_blank text) (length text) h.0 in
    let some : 0 < position_or_len is_blank text = subst (λ (ts : List ℕ). 0 < position_or_len is_blank ts) (sym e)
    (some_step (is_blank x) (position_or_len is_blank xs) f) in
    let long = length-take-le at text (let same = h.1 in omega arith) in
    let same = h.1 in
    ap with_bytes (subst (λ n. pieces_of text ≡ take n text ∷ pieces_of (drop (n + 1) text)) same
    (piece_ends text below))
    ∙ kept_word (take at text) (words_of (drop (at + 1) text)) (omega arith)
    ∙ ap (λ l. take at text ∷ words_of l) (sym (take_rest text (at + 1)))

-- a nonempty text without a blank is one word
pub word_only : (text : List ℕ) (x : ℕ) (xs : List ℕ) → text ≡ x ∷ xs → position is_blank text ≡ None → words_of text
    ≡ text ∷ words_of []
word_only text x xs e g =
    let past = ltb-false (position_or_len is_blank text) (length text)
    (missing (nat_lt (position_or_len is_blank text) (length text)) (position_or_len is_blank text) g) in
    ap with_bytes (only_piece text past) ∙ kept_word text [] (let long = ap length e in omega arith)
