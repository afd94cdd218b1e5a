-- Elements of lists: after a push, and in a part of a list.
use Rattle.std.proofs.Common.{◌≡◌, ◌+◌, ◌<◌, ◌-◌, ℕ, zero, suc, Bool, true, false, List, [], ◌∷◌, ◌++◌, length}
use Rattle.std.proofs.Common.{slice_get, slice_range, Some, refl, subst, arith}
use Rattle.std.specs.List.{list_all}
use Rattle.std.proofs.lemmas.List.{append_assoc}
use Rattle.ft_isa.proofs.Lists.{drop_next}

-- an element after a push is the pushed one or one before it
pub get_pushed : {X : Type 0} (xs : List X) (y : X) (k : ℕ) (x : X) → slice_get (xs ++ y ∷ []) k ≡ Some x →
    (P : ℕ → X → Type 0) → P (length xs) y → ((j : ℕ) (z : X) → slice_get xs j ≡ Some z → P j z) → P k x
get_pushed [] y zero x e P last before = let same : y ≡ x = cc in subst (P 0) same last
get_pushed [] y (suc k) x e P last before = cc
get_pushed (a ∷ xs) y zero x e P last before = before 0 x e
get_pushed (a ∷ xs) y (suc k) x e P last before = get_pushed xs y k x e (λ j z. P (suc j) z) last (λ j z f.
    before (suc j) z f)

-- the part of a list from an element on is that element followed by the others
pub range_there : {X : Type 0} (xs : List X) (i j : ℕ) (x : X) → i < j → slice_get xs i ≡ Some x → slice_range xs i j
    ≡ x ∷ slice_range xs (i + 1) j
range_there xs i j x l e =
    let n : j - i ≡ suc (j - (i + 1)) = omega arith in
    rw (drop_next xs i x e, n) refl

-- if the first element passes a test, all elements pass exactly when all others do
pub all_turn : {X : Type 0} (p : X → Bool) (xs ys : List X) (x : X) → xs ≡ x ∷ ys → p x ≡ true → list_all p xs
    ≡ list_all p ys
all_turn p xs ys x e h = rw (e, h) refl

-- if the first element fails a test, not all elements pass
pub all_stop : {X : Type 0} (p : X → Bool) (xs ys : List X) (x : X) → xs ≡ x ∷ ys → p x ≡ false → list_all p xs ≡ false
all_stop p xs ys x e h = rw (e, h) refl

-- moving an element from the front of the second list to the end of the first keeps their concatenation
pub one_more : {X : Type 0} (made : List X) (x : X) (others : List X) → (made ++ x ∷ []) ++ others ≡ made
    ++ (x ∷ others)
one_more made x others = append_assoc made (x ∷ []) others
