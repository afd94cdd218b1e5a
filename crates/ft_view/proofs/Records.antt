-- The record at a place.
use Rattle.std.proofs.Common.{◌≡◌, ℕ, zero, suc, ◌+◌, ◌*◌, ◌<◌, List, take, drop, Some, refl, arith}
use Rattle.std.specs.Prelude.{slice_get}
use Rattle.std.specs.Int.{Width}
use Rattle.std.proofs.lemmas.List.{drop-drop}
use Rattle.ft_format.specs.Layout.{size, numbers, rows}

-- record i of n is read where the i records before it end
pub row_at : (ws : List Width) (n i : ℕ) (bs : List ℕ) → i < n → slice_get (rows ws n bs) i
    ≡ Some (numbers ws (take (size ws) (drop (size ws * i) bs)))
unfolding rows
row_at ws zero i bs lt = absurd (omega arith)
row_at ws (suc n) zero bs lt = let k : size ws * 0 ≡ 0 = omega arith in rw k refl
row_at ws (suc n) (suc i) bs lt =
    let k : size ws * suc i ≡ size ws + size ws * i = omega arith in
    let h = row_at ws n i (drop (size ws) bs) (omega arith) in
    rw (k, ← drop-drop (size ws * i) (size ws) bs) h

-- record i of a section is read at its place in the bytes
pub record_at : (ws : List Width) (n i start at : ℕ) (bytes part row : List ℕ) → i < n → at ≡ start + size ws * i → part
    ≡ take (size ws) (drop at bytes) → row ≡ numbers ws part
    → slice_get (rows ws n (drop start bytes)) i ≡ Some row
record_at ws n i start at bytes part row lt place is numbers_are =
    let h = row_at ws n i (drop start bytes) lt in
    rw (numbers_are, is, place, ← drop-drop (size ws * i) start bytes) h
