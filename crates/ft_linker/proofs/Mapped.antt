-- Loops that append the image of each element to a list.
use Rattle.std.proofs.Common.{◌≡◌, ℕ, zero, suc, ◌+◌, List, [], ◌∷◌, ◌++◌, take, map, length, ◌<◌, get_or, Some}
use Rattle.std.proofs.Common.{slice_get, sym, ap, ◌∙◌, append_assoc, arith}
use Rattle.std.proofs.lemmas.Option.{slice_get-get_or}

-- mapping one more element appends its image
map_more : {X Y : Type 0} (f : X → Y) (xs : List X) (k : ℕ) (x : X) → slice_get xs k ≡ Some x → map f (take (suc k) xs)
    ≡ map f (take k xs) ++ f x ∷ []
map_more f [] k x e = cc
map_more f (y ∷ xs) zero x e = let same : y ≡ x = cc in ap (λ z. f z ∷ []) same
map_more f (y ∷ xs) (suc k) x e = ap (λ z. f y ∷ z) (map_more f xs k x e)

mapped_more : {X Y : Type 0} (f : X → Y) (xs : List X) (front ys : List Y) (k : ℕ) (x : X) → ys ≡ front
    ++ map f (take k xs) → slice_get xs k ≡ Some x → ys ++ f x ∷ [] ≡ front ++ map f (take (k + 1) xs)
mapped_more f xs front ys k x e g =
    ap (λ z. z ++ f x ∷ []) e ∙ append_assoc front (map f (take k xs)) (f x ∷ [])
    ∙ ap (λ z. front ++ z) (sym (map_more f xs k x g) ∙ (let n : suc k ≡ k + 1 = omega arith in
    ap (λ j. map f (take j xs)) n))

pub mapped_pushed : {X Y : Type 0} (f : X → Y) (xs : List X) (front ys zs : List Y) (k : ℕ) (x : X) (y : Y) → ys ≡ front
    ++ map f (take k xs) → slice_get xs k ≡ Some x → y ≡ f x → zs ≡ ys ++ y ∷ [] → zs ≡ front ++ map f (take (k + 1) xs)
mapped_pushed f xs front ys zs k x y e g h p = p ∙ ap (λ z. ys ++ z ∷ []) h ∙ mapped_more f xs front ys k x e g

-- an element that is read by its index is in the list at this index
pub at_index : {X : Type 0} (xs : List X) (k : ℕ) (x : X) → k < length xs → x ≡ get_or xs k x → slice_get xs k ≡ Some x
at_index xs k x lt e = slice_get-get_or xs k x lt ∙ ap Some (sym e)
