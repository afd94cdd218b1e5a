-- Where names and numbers end: private to the code.
use Rattle.std.specs.Prelude.{◌≡◌, ℕ, false, List, [], ◌∷◌}
use Rattle.ft_lexer.specs.Bytes.{is_digit, is_name_byte}

-- the next byte, if any, does not continue a name
abbrev pub EndsName : List ℕ → Type 0
EndsName [] = Unit {0}
EndsName (b ∷ bs) = is_name_byte b ≡ false

-- the next byte, if any, is not a digit
abbrev pub EndsNumber : List ℕ → Type 0
EndsNumber [] = Unit {0}
EndsNumber (b ∷ bs) = is_digit b ≡ false
