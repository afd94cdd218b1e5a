-- The words of a line, up to a comment.
use Rattle.std.specs.Prelude.{ℕ, if◌then◌else◌, List, [], ◌∷◌}
use Rattle.ft_text.specs.LineWords.{words_of, is_comment}

-- the words before the first that begins a comment
abbrev pub before_comment : List (List ℕ) → List (List ℕ)
before_comment [] = []
before_comment (word ∷ words) = if is_comment word then [] else word ∷ before_comment words

-- the words that a line says
abbrev pub line_words : List ℕ → List (List ℕ)
line_words line = before_comment (words_of line)
