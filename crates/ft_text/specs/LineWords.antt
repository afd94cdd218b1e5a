-- The words of a line, separated by spaces and tabs.
use Rattle.std.specs.Prelude.{ℕ, Bool, false, ◌==◌, ◌||◌, if◌then◌else◌, List, [], ◌∷◌, Option, Some, None, option_map, option_and_then}
use Rattle.ft_isa.specs.Reading.{state_after, with_digit}
use Rattle.ft_text.specs.Lines.{with_byte}

-- whether a byte is a space or a tab
abbrev pub is_blank : ℕ → Bool
is_blank byte = (byte == 32) || (byte == 9)

-- the pieces of a line between blanks
abbrev pub pieces_of : List ℕ → List (List ℕ)
pieces_of [] = [] ∷ []
pieces_of (byte ∷ bytes) = if is_blank byte then [] ∷ pieces_of bytes else with_byte byte (pieces_of bytes)

-- a word before others; it is left out if it is empty
abbrev pub with_word : List ℕ → List (List ℕ) → List (List ℕ)
with_word [] words = words
with_word (byte ∷ bytes) words = (byte ∷ bytes) ∷ words

-- the pieces that are not empty
abbrev pub with_bytes : List (List ℕ) → List (List ℕ)
with_bytes [] = []
with_bytes (piece ∷ pieces) = with_word piece (with_bytes pieces)

-- the words of a line, separated by blanks
abbrev pub words_of : List ℕ → List (List ℕ)
words_of line = with_bytes (pieces_of line)

-- whether a word begins a comment
abbrev pub is_comment : List ℕ → Bool
is_comment [] = false
is_comment (byte ∷ bytes) = byte == 35

-- the number that a number text spells
abbrev pub number_of : List ℕ → Option ℕ
number_of word = option_and_then (λ number. number) (state_after (λ number byte. option_map Some (with_digit number byte)) None word)

-- the value of the first word, and the words after it
abbrev pub taken : {A : Type 0} → (List ℕ → Option A) → List (List ℕ) → Option (A × List (List ℕ))
taken read [] = None
taken read (word ∷ words) = option_map (λ a. (a, words)) (read word)

-- a value, if no word is left
abbrev pub ended : {A : Type 0} → A → List (List ℕ) → Option A
ended a [] = Some a
ended a (word ∷ words) = None
