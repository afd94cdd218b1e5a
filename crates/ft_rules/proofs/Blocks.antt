-- Blocks in order, and the first that passes a test.
use Rattle.std.proofs.Common.{◌≡◌, ◌<◌, ℕ, zero, suc, Bool, true, false, List, [], ◌∷◌, slice_get, Some, refl, subst}
use Rattle.std.proofs.Common.{arith}
use Rattle.std.specs.List.{find}
use Rattle.ft_types.specs.declared.object.Block.{Block}
use Rattle.ft_types.specs.Spellable.{AreBlocks}
use Rattle.ft_types.proofs.BlockStarts.{above_least}

-- a later block begins later
pub starts_rise : (end least : ℕ) (bs : List Block) (k n : ℕ) (x y : Block) → AreBlocks end least bs → k < n →
    slice_get bs k ≡ Some x → slice_get bs n ≡ Some y → x.start < y.start
starts_rise end least [] k n x y h l e f = cc
starts_rise end least (b ∷ bs) k zero x y h l e f = absurd (omega arith)
starts_rise end least (b ∷ bs) zero (suc n) x y h l e f = let same : b ≡ x = cc in
    subst (λ (z : Block). z.start < y.start) same (above_least end (suc b.start) bs n y h.2 f)
starts_rise end least (b ∷ bs) (suc k) (suc n) x y h l e f =
    starts_rise end (suc b.start) bs k n x y h.2 (omega arith) e f

-- `find` returns an element that passes the test if none before it does
pub find_first : {X : Type 0} (p : X → Bool) (xs : List X) (n : ℕ) (x : X) → slice_get xs n ≡ Some x → p x ≡ true →
    ((k : ℕ) (y : X) → k < n → slice_get xs k ≡ Some y → p y ≡ false) → find p xs ≡ Some x
find_first p [] n x e h before = cc
find_first p (y ∷ xs) zero x e h before = let same : y ≡ x = cc in rw (same, h) refl
find_first p (y ∷ xs) (suc n) x e h before = rw (before 0 y (omega arith) refl) (find_first p xs n x e h (λ k z l f.
    before (suc k) z (omega arith) f))
