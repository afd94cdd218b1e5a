-- What the hasher of the interner's table computes. Private to the code.
use Rattle.std.specs.Prelude.{ℕ, List, ◌==◌, if◌then◌else◌, bit_xor, length}
use Rattle.std.specs.Int.{from_le_bytes, w32, w64}
use Rattle.std.specs.List.{fold}
use Rattle.core.specs.Hash.FoldHasher.{folded_multiply}
use Rattle.ft_norm.specs.declared.keys.KeyedFold.{KeyedFold}

-- the state after a word
abbrev pub noted : KeyedFold → ℕ → KeyedFold
noted h w = record h { state = folded_multiply (bit_xor h.state w) h.factor }

-- the state after bytes: eight or four bytes are hashed as one word, any other number of bytes one by one
abbrev pub written : KeyedFold → List ℕ → KeyedFold
written h bs = if length bs == 8 then noted h (from_le_bytes w64 bs) else (if length bs == 4 then noted h (from_le_bytes w32 bs) else fold noted h bs)
