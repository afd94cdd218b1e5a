-- Reading lists after an element is appended.
use Rattle.std.proofs.Common.{ℕ, suc, zero, ◌≡◌, List, [], ◌∷◌, ◌++◌, length, refl, arith, Some, slice_get}

-- the appended element is the last
pub slice_get-push : {A : Type 0} (xs : List A) (y : A) (k : ℕ) → k ≡ length xs → slice_get (xs ++ y ∷ []) k ≡ Some y
slice_get-push [] y zero e = refl
slice_get-push [] y (suc k) e = absurd (omega arith)
slice_get-push (x ∷ xs) y zero e = absurd (omega arith)
slice_get-push (x ∷ xs) y (suc k) e = slice_get-push xs y k (omega arith)
