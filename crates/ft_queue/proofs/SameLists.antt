-- Lists that are equal element by element.
use Rattle.std.proofs.Common.{◌≡◌, ℕ, suc, ◌<◌, List, [], ◌∷◌, length, Some, slice_get, refl, arith}

pub same_lists : {X : Type 0} (xs ys : List X) → length xs ≡ length ys →
    ((j : ℕ) → j < length xs → slice_get xs j ≡ slice_get ys j) → xs ≡ ys
same_lists [] [] e h = refl
same_lists [] (y ∷ ys) e h = absurd (omega (arith, e))
same_lists (x ∷ xs) [] e h = absurd (omega (arith, e))
same_lists (x ∷ xs) (y ∷ ys) e h =
    let first : Some x ≡ Some y = h 0 (omega arith) in
    let rest = same_lists xs ys (omega (arith, e)) (λ j lt. h (suc j) (omega (arith, lt))) in
    cc
