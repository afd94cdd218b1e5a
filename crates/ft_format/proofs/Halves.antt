-- Eight-byte numbers are written as two halves.
use Rattle.std.proofs.Common.{◌≡◌, ℕ, ◌+◌, ◌*◌, ◌<◌, ◌^◌, [], ◌∷◌, ◌++◌, refl, append_assoc, arith}
use Rattle.std.proofs.lemmas.List.{append-nil}
use Rattle.std.specs.Int.{w8, w32, w64, byte_at}
use Rattle.ft_types.specs.NodeRows.{joined, row_words}
use Rattle.ft_format.specs.Layout.{bytes_of, written, code_layout}

-- the bytes of a word are those of its upper half followed by those of its lower half
pub halves : (high low : ℕ) → low < 2 ^ 32 → bytes_of w64 (joined high low) ≡ bytes_of w32 high ++ bytes_of w32 low
unfolding bytes_of
halves high low fits =
    let e7 : byte_at 7 (joined high low) ≡ byte_at 3 high = omega arith in
    let e6 : byte_at 6 (joined high low) ≡ byte_at 2 high = omega arith in
    let e5 : byte_at 5 (joined high low) ≡ byte_at 1 high = omega arith in
    let e4 : byte_at 4 (joined high low) ≡ byte_at 0 high = omega arith in
    let e3 : byte_at 3 (joined high low) ≡ byte_at 3 low = omega arith in
    let e2 : byte_at 2 (joined high low) ≡ byte_at 2 low = omega arith in
    let e1 : byte_at 1 (joined high low) ≡ byte_at 1 low = omega arith in
    let e0 : byte_at 0 (joined high low) ≡ byte_at 0 low = omega arith in
    cc

-- four one-byte numbers are the bytes of the number that they form
front : (a b c d : ℕ) → a < 256 → b < 256 → c < 256 → d < 256 → bytes_of w32 (a * 2 ^ 24 + b * 2 ^ 16 + c * 2 ^ 8 + d)
    ≡ bytes_of w8 a ++ bytes_of w8 b ++ bytes_of w8 c ++ bytes_of w8 d
unfolding bytes_of
front a b c d fa fb fc fd =
    let f = a * 2 ^ 24 + b * 2 ^ 16 + c * 2 ^ 8 + d in
    let e3 : byte_at 3 f ≡ byte_at 0 a = omega arith in
    let e2 : byte_at 2 f ≡ byte_at 0 b = omega arith in
    let e1 : byte_at 1 f ≡ byte_at 0 c = omega arith in
    let e0 : byte_at 0 f ≡ byte_at 0 d = omega arith in
    cc

-- the bytes of a node's or an instruction's record are those of its two words
pub words_written : (k a b c x high low : ℕ) → k < 256 → a < 256 → b < 256 → c < 256 → x < 2 ^ 32 → low < 2 ^ 32 →
    bytes_of w64 (row_words (k ∷ a ∷ b ∷ c ∷ x ∷ high ∷ low ∷ [])).0
    ++ bytes_of w64 (row_words (k ∷ a ∷ b ∷ c ∷ x ∷ high ∷ low ∷ [])).1
    ≡ written code_layout (k ∷ a ∷ b ∷ c ∷ x ∷ high ∷ low ∷ [])
unfolding written
words_written k a b c x high low fk fa fb fc fx fl =
    rw (
      halves (k * 2 ^ 24 + a * 2 ^ 16 + b * 2 ^ 8 + c) x fx,
      halves high low fl,
      front k a b c fk fa fb fc,
    ) (simp (append_assoc, append-nil) refl)
