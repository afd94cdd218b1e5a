-- Words, and the words of lines.
use Rattle.std.specs.Prelude.{◌≡◌, ℕ, ◌<◌, Bool, true, false, ◌==◌, ◌&&◌, not, if◌then◌else◌, List, [], ◌∷◌, length}
use Rattle.std.specs.List.{AllByRecursion}
use Rattle.ft_text.specs.LineWords.{is_blank, words_of, is_comment}

-- whether a byte may be in a word: it is neither a blank nor a line feed. A word has at least one byte
abbrev pub is_part : ℕ → Bool
is_part byte = not (is_blank byte) && not (byte == 10)

abbrev pub HasParts : List ℕ → Type 0
HasParts word = AllByRecursion (λ byte. is_part byte ≡ true) word

abbrev pub IsAnyWord : List ℕ → Type 0
IsAnyWord word = (0 < length word) × HasParts word

-- whether the words of a line say something: there are some, and the first does not begin a comment
abbrev pub is_said : List (List ℕ) → Bool
is_said [] = false
is_said (word ∷ words) = not (is_comment word)

-- the words of a line before those of later lines; they are left out if they say nothing
abbrev pub with_said : List (List ℕ) → List (List (List ℕ)) → List (List (List ℕ))
with_said words lines = if is_said words then words ∷ lines else lines

-- the words of each line that says something
abbrev pub said_in : List (List ℕ) → List (List (List ℕ))
said_in [] = []
said_in (line ∷ lines) = with_said (words_of line) (said_in lines)
