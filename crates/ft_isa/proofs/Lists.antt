-- The element at a position of a list: in parts of the list, after a push, after a map; and properties of all elements.
use Rattle.std.proofs.Common.{◌≡◌, ◌⊎◌, inl, inr, ℕ, zero, suc, ◌+◌, ◌-◌, ◌<◌, ◌≤◌, Bool, true, false, cond, List, []}
use Rattle.std.proofs.Common.{◌∷◌, ◌++◌, length, map, take, drop, slice_get, slice_range, Some, None, refl, ap, subst}
use Rattle.std.proofs.Common.{◌∙◌, arith}
use Rattle.std.specs.Prelude.{All, find}
use Rattle.std.specs.List.{AllByRecursion, list_all}
use Rattle.std.proofs.lemmas.List.{length-append}
use Rattle.std.proofs.lemmas.List.Elements.{All-cons, All-nil}
use Rattle.std.proofs.lemmas.Option.{slice_get_within, get_or_from_slice_get}

-- POSITIONS

-- a list has an element at each position below its length
pub there_below : {X : Type 0} (xs : List X) (k : ℕ) → k < length xs → (x : X) × (slice_get xs k ≡ Some x)
there_below [] k lt = absurd (omega arith)
there_below (x ∷ xs) zero lt = (x, refl)
there_below (x ∷ xs) (suc k) lt = there_below xs k (omega arith)

-- appending elements does not change what is at earlier positions
pub get_front : {X : Type 0} (xs ys : List X) (k : ℕ) → k < length xs → slice_get (xs ++ ys) k ≡ slice_get xs k
get_front [] ys k lt = absurd (omega arith)
get_front (x ∷ xs) ys zero lt = refl
get_front (x ∷ xs) ys (suc k) lt = get_front xs ys k (omega arith)

-- an element stays at its position when others are appended
pub there_front : {X : Type 0} (xs ys : List X) (k : ℕ) (x : X) → slice_get xs k ≡ Some x → slice_get (xs ++ ys) k
    ≡ Some x
there_front [] ys k x e = cc
there_front (y ∷ xs) ys zero x e = e
there_front (y ∷ xs) ys (suc k) x e = there_front xs ys k x e

-- after a push, an element is one of the earlier ones or the one that was pushed
pub there_pushed : {X : Type 0} (xs : List X) (y : X) (k : ℕ) (x : X) → slice_get (xs ++ y ∷ []) k ≡ Some x →
    (slice_get xs k ≡ Some x) ⊎ ((k ≡ length xs) × (y ≡ x))
there_pushed [] y zero x e = inr (refl, (let f : y ≡ x = cc in f))
there_pushed [] y (suc k) x e = cc
there_pushed (z ∷ zs) y zero x e = inl e
there_pushed (z ∷ zs) y (suc k) x e = elim (there_pushed zs y k x e) [ inl f ↦ inl f | inr f ↦ inr (ap suc f.0, f.1) ]

-- a push makes the list longer by one
pub length_pushed : {X : Type 0} (xs : List X) (y : X) → length (xs ++ y ∷ []) ≡ suc (length xs)
length_pushed xs y = length-append xs (y ∷ []) ∙ omega arith

-- mapping a list maps the element at each position
pub there_mapped : {X Y : Type 0} (f : X → Y) (xs : List X) (k : ℕ) (x : X) → slice_get xs k ≡ Some x →
    slice_get (map f xs) k ≡ Some (f x)
there_mapped f [] k x e = cc
there_mapped f (y ∷ xs) zero x e = let same : y ≡ x = cc in ap (λ z. Some (f z)) same
there_mapped f (y ∷ xs) (suc k) x e = there_mapped f xs k x e

-- PARTS

-- the part of a list from an element on is the element, followed by the rest
pub drop_there : {X : Type 0} (xs : List X) (k : ℕ) (x : X) → slice_get xs k ≡ Some x → drop k xs ≡ x ∷ drop (suc k) xs
drop_there [] k x e = cc
drop_there (y ∷ xs) zero x e = let same : y ≡ x = cc in ap (λ z. z ∷ xs) same
drop_there (y ∷ xs) (suc k) x e = drop_there xs k x e

-- likewise, with the next position written `k + 1`, as in a loop
pub drop_next : {X : Type 0} (xs : List X) (k : ℕ) (x : X) → slice_get xs k ≡ Some x → drop k xs ≡ x ∷ drop (k + 1) xs
drop_next xs k x e = drop_there xs k x e ∙ (let n : suc k ≡ k + 1 = omega arith in ap (λ j. x ∷ drop j xs) n)

-- the part of a list up to and including an element is the part before it, followed by the element
pub take_there : {X : Type 0} (xs : List X) (k : ℕ) (x : X) → slice_get xs k ≡ Some x → take (suc k) xs ≡ take k xs
    ++ x ∷ []
take_there [] k x e = cc
take_there (y ∷ xs) zero x e = (let same : y ≡ x = cc in ap (λ z. z ∷ []) same)
take_there (y ∷ xs) (suc k) x e = ap (λ z. y ∷ z) (take_there xs k x e)

-- taking the first n elements does not change the element at a position below n
pub get_taken : {X : Type 0} (n : ℕ) (xs : List X) (k : ℕ) → k < n → slice_get (take n xs) k ≡ slice_get xs k
get_taken zero xs k lt = absurd (omega arith)
get_taken (suc n) [] k lt = refl
get_taken (suc n) (x ∷ xs) zero lt = refl
get_taken (suc n) (x ∷ xs) (suc k) lt = get_taken n xs k (omega arith)

-- after n elements are dropped, the element at position k is the one that was at n + k
pub get_dropped : {X : Type 0} (n : ℕ) (xs : List X) (k : ℕ) → slice_get (drop n xs) k ≡ slice_get xs (n + k)
get_dropped zero xs k = let e : 0 + k ≡ k = omega arith in rw e refl
get_dropped (suc n) [] k = refl
get_dropped (suc n) (x ∷ xs) k = let e : suc n + k ≡ suc (n + k) = omega arith in rw e (get_dropped n xs k)

-- a range that ends at its start, or before it, is empty
pub range_past : {X : Type 0} (xs : List X) (i j : ℕ) → j ≤ i → slice_range xs i j ≡ []
range_past xs i j le = let n : j - i ≡ 0 = omega arith in rw n refl

-- PROPERTIES OF ALL ELEMENTS

-- what holds of all elements holds of the one at a position
pub all_there : {X : Type 0} (P : X → Type 0) (xs : List X) (k : ℕ) (x : X) → All P xs → slice_get xs k ≡ Some x → P x
all_there P xs k x h e = subst P (get_or_from_slice_get xs k x x e) (h k x (slice_get_within xs k x e))

-- what holds of a value holds of every element of the list that contains only this value
pub all_of_one : {X : Type 0} (P : X → Type 0) (x : X) → P x → All P (x ∷ [])
all_of_one P x h = All-cons P x [] h (All-nil P)

-- what holds of all elements of two lists holds of all elements of their concatenation
pub all_append : {X : Type 0} (P : X → Type 0) (xs ys : List X) → AllByRecursion P xs → AllByRecursion P ys →
    AllByRecursion P (xs ++ ys)
all_append P [] ys h i = i
all_append P (x ∷ xs) ys h i = (h.0, all_append P xs ys h.1 i)

-- if the element at each position passes a test, all elements pass it
pub all_pass : {X : Type 0} (p : X → Bool) (xs : List X) → ((k : ℕ) (x : X) → slice_get xs k ≡ Some x → p x ≡ true) →
    list_all p xs ≡ true
all_pass p [] h = refl
all_pass p (y ∷ xs) h = rw (h 0 y refl) (all_pass p xs (λ k x e. h (suc k) x e))

-- if no element passes a test, `find` finds nothing
pub none_pass : {X : Type 0} (p : X → Bool) (xs : List X) → ((k : ℕ) (x : X) → slice_get xs k ≡ Some x → p x ≡ false) →
    find p xs ≡ None
none_pass p [] h = refl
none_pass p (x ∷ xs) h = ap (λ b. cond b (Some x) (find p xs)) (h 0 x refl) ∙ none_pass p xs (λ k y e. h (suc k) y e)
