-- Where the blocks of an object begin.
use Rattle.std.proofs.Common.{◌≡◌, ◌<◌, ◌≤◌, ℕ, zero, suc, List, [], ◌∷◌, slice_get, Some, subst, arith}
use Rattle.ft_types.specs.declared.object.Block.{Block}
use Rattle.ft_types.specs.Spellable.{AreBlocks}

-- no block begins before `least`
pub above_least : (end least : ℕ) (bs : List Block) (i : ℕ) (x : Block) → AreBlocks end least bs → slice_get bs i
    ≡ Some x → least ≤ x.start
above_least end least [] i x h e = cc
above_least end least (b ∷ bs) zero x h e = let same : b ≡ x = cc in subst (λ (y : Block). least ≤ y.start) same h.0
above_least end least (b ∷ bs) (suc i) x h e = let l = above_least end (suc b.start) bs i x h.2 e in let m = h.0 in
    omega arith

-- a block begins before the end of the code
pub below_end : (end least : ℕ) (bs : List Block) (i : ℕ) (x : Block) → AreBlocks end least bs → slice_get bs i
    ≡ Some x → x.start < end
below_end end least [] i x h e = cc
below_end end least (b ∷ bs) zero x h e = let same : b ≡ x = cc in subst (λ (y : Block). y.start < end) same h.1
below_end end least (b ∷ bs) (suc i) x h e = below_end end (suc b.start) bs i x h.2 e

-- a later block begins later
pub rises : (end least : ℕ) (bs : List Block) (i j : ℕ) (x y : Block) → AreBlocks end least bs → slice_get bs i
    ≡ Some x → slice_get bs j ≡ Some y → i < j → x.start < y.start
rises end least [] i j x y h ex ey l = cc
rises end least (b ∷ bs) i zero x y h ex ey l = absurd (omega arith)
rises end least (b ∷ bs) zero (suc j) x y h ex ey l = let same : b ≡ x = cc in
    subst (λ (z : Block). z.start < y.start) same (above_least end (suc b.start) bs j y h.2 ey)
rises end least (b ∷ bs) (suc i) (suc j) x y h ex ey l = rises end (suc b.start) bs i j x y h.2 ex ey (omega arith)
