-- Two lists compared element by element.
use Rattle.std.proofs.Common.{◌≡◌, ℕ, zero, suc, ◌+◌, List, [], ◌∷◌, take, slice_get, Some, sym}
use Rattle.std.proofs.Common.{subst, arith}
use Rattle.std.specs.List.{AllZip}

-- prefixes that are related element by element still are with one more element each
zip_next : {X : Type 0} (R : X → X → Type 0) (xs ys : List X) (k : ℕ) (x y : X) → AllZip R (take k xs) (take k ys) →
    slice_get xs k ≡ Some x → slice_get ys k ≡ Some y → R x y → AllZip R (take (suc k) xs) (take (suc k) ys)
zip_next R [] ys k x y h e f r = cc
zip_next R (a ∷ xs) [] k x y h e f r = cc
zip_next R (a ∷ xs) (b ∷ ys) zero x y h e f r = let s : a ≡ x = cc in let t : b ≡ y = cc in
    (subst (λ z. R z b) (sym s) (subst (R x) (sym t) r), tt)
zip_next R (a ∷ xs) (b ∷ ys) (suc k) x y h e f r = (h.0, zip_next R xs ys k x y h.1 e f r)

pub zip_more : {X : Type 0} (R : X → X → Type 0) (xs ys : List X) (k : ℕ) (x y : X) → AllZip R (take k xs) (take k ys) →
    slice_get xs k ≡ Some x → slice_get ys k ≡ Some y → R x y → AllZip R (take (k + 1) xs) (take (k + 1) ys)
zip_more R xs ys k x y h e f r = let n : suc k ≡ k + 1 = omega arith in
    subst (λ (j : ℕ). AllZip R (take j xs) (take j ys)) n (zip_next R xs ys k x y h e f r)

-- if two lists are related element by element, so are their elements at any index
pub zip_at : {X : Type 0} (R : X → X → Type 0) (xs ys : List X) (k : ℕ) (x y : X) → AllZip R xs ys → slice_get xs k
    ≡ Some x → slice_get ys k ≡ Some y → R x y
zip_at R [] ys k x y h e f = cc
zip_at R (a ∷ xs) [] k x y h e f = absurd h
zip_at R (a ∷ xs) (b ∷ ys) zero x y h e f = let s : a ≡ x = cc in let t : b ≡ y = cc in
    subst (λ z. R z y) s (subst (R a) t h.0)
zip_at R (a ∷ xs) (b ∷ ys) (suc k) x y h e f = zip_at R xs ys k x y h.1 e f
