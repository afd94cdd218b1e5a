-- How words are read.
use Rattle.std.specs.Prelude.{ℕ, suc, ◌-◌, Bool, false, ◌==◌, ◌&&◌, nat_lt, List, [], ◌∷◌, length, take, Option, Some}
use Rattle.std.specs.Prelude.{None, option_map, option_and_then, if◌then◌else◌, slice_index_or}
use Rattle.std.specs.List.{list_all}
use Rattle.std.specs.Str.{bytes_eq}
use Rattle.ft_text.specs.LineWords.{number_of}
use Rattle.ft_lexer.specs.Bytes.{is_letter, is_name_byte}

-- the number that a word spells: decimal digits without leading zeros, below 2^64
unfoldable pub number_in : List ℕ → Option ℕ
number_in word = number_of word

-- a number below 32
abbrev pub below_32 : ℕ → Option ℕ
below_32 n = if nat_lt n 32 then Some n else None

-- the pair that a word names: `p` and a number below 32
unfoldable pub pair_in : List ℕ → Option ℕ
pair_in [] = None
pair_in (byte ∷ bytes) = if byte == 112 then option_and_then below_32 (number_in bytes) else None

-- the words after this one
abbrev pub past : List ℕ → List (List ℕ) → Option (List (List ℕ))
past expected [] = None
past expected (word ∷ words) = if bytes_eq word expected then Some words else None

-- whether a word may name a cell: a letter or an underscore, and then letters, digits and underscores, at most 32 in
-- all
abbrev pub is_plain_name : List ℕ → Bool
is_plain_name [] = false
is_plain_name (b ∷ bs) = is_letter b && list_all is_name_byte bs && nat_lt (length bs) 32

-- the place of the first of these names that is this word; their number if none is
abbrev pub index_of : List (List ℕ) → List ℕ → ℕ
index_of [] word = 0
index_of (name ∷ names) word = if bytes_eq name word then 0 else suc (index_of names word)

-- the name of the block that a word begins: the bytes before a colon at its end
abbrev pub label_name : List ℕ → Option (List ℕ)
label_name word = if nat_lt 1 (length word) && (slice_index_or word (length word - 1) 0 == 58)
    then Some (take (length word - 1) word) else None

-- a line of one such word
abbrev pub label_in : List (List ℕ) → Option (List ℕ)
label_in [] = None
label_in (word ∷ []) = label_name word
label_in (word ∷ next ∷ words) = None
