-- Memory as a row of aligned words of 64 bits, and code as a row of words of 32 bits.
use Rattle.std.specs.Prelude.{ℕ, ◌-◌, ◌/◌, ◌%◌, ◌==◌, nat_lt, nat_le, if◌then◌else◌, List, length, Option, Some, None, slice_index_or, slice_set}

-- which unit of a row that begins at `base` has this address
abbrev pub place : ℕ → ℕ → ℕ → Option ℕ
place base unit address =
    if nat_le base address then (if (address - base) % unit == 0 then Some ((address - base) / unit) else None) else None

-- the unit at a place, if there is one
abbrev pub item_at : List ℕ → Option ℕ → Option ℕ
item_at items None = None
item_at items (Some n) = if nat_lt n (length items) then Some (slice_index_or items n 0) else None

-- the items with another one at a place, if there is such a place
abbrev pub with_item : List ℕ → Option ℕ → ℕ → List ℕ
with_item items None v = items
with_item items (Some n) v = slice_set items n v

-- the word of code at an address
abbrev pub code_at : ℕ → List ℕ → ℕ → Option ℕ
code_at base code address = item_at code (place base 4 address)

-- the word of memory at an address
abbrev pub word_at : ℕ → List ℕ → ℕ → Option ℕ
word_at base words address = item_at words (place base 8 address)

-- the memory with another word at an address
abbrev pub with_word : ℕ → List ℕ → ℕ → ℕ → List ℕ
with_word base words address v = with_item words (place base 8 address) v
