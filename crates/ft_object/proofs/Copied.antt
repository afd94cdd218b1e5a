-- Copying lists value by value.
use Rattle.std.proofs.Common.{◌≡◌, ℕ, suc, ◌+◌, ◌≤◌, List, [], ◌∷◌, ◌++◌, length, take, Some, sym, ap, ◌∙◌, arith}
use Rattle.std.specs.Prelude.{slice_get}
use Rattle.std.proofs.lemmas.List.{take_all}
use Rattle.ft_isa.proofs.Lists.{take_there}

-- appending value i to a copy of the first i values gives a copy of the first i + 1
pub copied_more : {X : Type 0} (xs done : List X) (i : ℕ) (x : X) → slice_get xs i ≡ Some x → done ≡ take i xs → done
    ++ x ∷ [] ≡ take (i + 1) xs
copied_more xs done i x there h =
    let e : i + 1 ≡ suc i = omega arith in
    ap (λ l. l ++ x ∷ []) h ∙ sym (take_there xs i x there) ∙ ap (λ k. take k xs) (sym e)

-- a copy of the first i values is a copy of all values if there are at most i
pub copied_all : {X : Type 0} (xs done : List X) (i : ℕ) → length xs ≤ i → done ≡ take i xs → done ≡ xs
copied_all xs done i le h = h ∙ take_all i xs le
