-- Concatenated lists of instructions.
use Rattle.std.proofs.Common.{◌≡◌, ℕ, zero, suc, ◌+◌, ◌-◌, ◌<◌, ◌≤◌, Bool, true, cond, List, [], ◌∷◌, ◌++◌, length}
use Rattle.std.proofs.Common.{take, drop, Some, slice_get, refl, sym, ap, ◌∙◌, subst, arith}
use Rattle.std.specs.List.{slice_range, count_by, list_all}
use Rattle.std.proofs.lemmas.Bool.{and_parts}
use Rattle.std.proofs.lemmas.List.{length-append, length-drop, drop-append-le, drop-take, append_cancel_right}
use Rattle.std.proofs.lemmas.List.Sums.{sum_by-append, sum_by-cons}
use Rattle.ft_isa.specs.declared.instr.Instr.{Instr}
use Rattle.ft_exchange.specs.Exchange.{exchanged}

-- ELEMENTS

pub get_front : (xs ys : List Instr) (k : ℕ) → k < length xs → slice_get (xs ++ ys) k ≡ slice_get xs k
get_front [] ys k h = absurd (omega arith)
get_front (x ∷ xs) ys zero h = refl
get_front (x ∷ xs) ys (suc k) h = get_front xs ys k (omega arith)

pub get_behind : (xs ys : List Instr) (k : ℕ) → slice_get (xs ++ ys) (length xs + k) ≡ slice_get ys k
get_behind [] ys k = ap (slice_get ys) (omega arith)
get_behind (x ∷ xs) ys k = (let e : length (x ∷ xs) + k ≡ suc (length xs + k) = omega arith in
    ap (slice_get (x ∷ xs ++ ys)) e) ∙ get_behind xs ys k

pub get_seam : (xs : List Instr) (y : Instr) (ys : List Instr) → slice_get (xs ++ y ∷ ys) (length xs) ≡ Some y
get_seam [] y ys = refl
get_seam (x ∷ xs) y ys = get_seam xs y ys

-- a test that all elements pass is passed by each of them
pub all_at : (test : Instr → Bool) (xs : List Instr) (k : ℕ) (x : Instr) → list_all test xs ≡ true → slice_get xs k
    ≡ Some x → test x ≡ true
all_at test [] k x h e = cc
all_at test (y ∷ xs) zero x h e = (let same : y ≡ x = cc in
    subst (λ (z : Instr). test z ≡ true) same (and_parts (test y) (list_all test xs) h).0)
all_at test (y ∷ xs) (suc k) x h e = all_at test xs k x (and_parts (test y) (list_all test xs) h).1 e

-- a list consists of the elements before its last one and then that one
pub last_apart : (xs : List Instr) (k : ℕ) (x : Instr) → slice_get xs k ≡ Some x → suc k ≡ length xs → xs ≡ take k xs
    ++ x ∷ []
last_apart [] k x e l = cc
last_apart (y ∷ []) zero x e l = (let same : y ≡ x = cc in ap (λ z. z ∷ []) same)
last_apart (y ∷ z ∷ xs) zero x e l = absurd (omega arith)
last_apart (y ∷ xs) (suc k) x e l = ap (λ z. y ∷ z) (last_apart xs k x e (omega arith))

-- the last element of a list, and the rest before it, are unique
pub same_front : (xs ys : List Instr) (x y : Instr) → xs ++ x ∷ [] ≡ ys ++ y ∷ [] → (xs ≡ ys) × (x ≡ y)
same_front xs ys x y e =
    let lengths : length (xs ++ x ∷ []) ≡ length (ys ++ y ∷ []) = ap length e in
    let a = length-append xs (x ∷ []) in
    let b = length-append ys (y ∷ []) in
    let same : length xs ≡ length ys = omega arith in
    let last : Some x ≡ Some y = sym (get_seam xs x []) ∙ ap (λ (z : List Instr). slice_get z (length xs)) e
    ∙ ap (slice_get (ys ++ y ∷ [])) same ∙ get_seam ys y [] in
    let one : x ≡ y = cc in
    (append_cancel_right xs ys (x ∷ []) (e ∙ ap (λ z. ys ++ z ∷ []) (sym one)), one)

-- PARTS

take_front : (n : ℕ) (xs ys : List Instr) → n ≤ length xs → take n (xs ++ ys) ≡ take n xs
take_front zero xs ys h = refl
take_front (suc n) [] ys h = absurd (omega arith)
take_front (suc n) (x ∷ xs) ys h = ap (λ z. x ∷ z) (take_front n xs ys (omega arith))

take_whole : (n : ℕ) (xs : List Instr) → length xs ≤ n → take n xs ≡ xs
take_whole zero [] h = refl
take_whole zero (x ∷ xs) h = absurd (omega arith)
take_whole (suc n) [] h = refl
take_whole (suc n) (x ∷ xs) h = ap (λ z. x ∷ z) (take_whole n xs (omega arith))

pub length_drop : (n : ℕ) (xs : List Instr) → length (drop n xs) ≡ length xs - n
length_drop n xs = length-drop n xs

-- a part of a concatenation that ends within the first list is a part of that list
pub range_front : (xs ys : List Instr) (a e : ℕ) → a ≤ e → e ≤ length xs → slice_range (xs ++ ys) a e
    ≡ slice_range xs a e
range_front xs ys a e l h =
    ap (take (e - a)) (drop-append-le a xs ys (omega arith))
    ∙ take_front (e - a) (drop a xs) ys (let d = length_drop a xs in omega arith)

-- a part that ends with the list is the rest of the list
pub range_end : (xs : List Instr) (a : ℕ) → slice_range xs a (length xs) ≡ drop a xs
range_end xs a = take_whole (length xs - a) (drop a xs) (let d = length_drop a xs in omega arith)

-- the part of a list from `a` up to `e` is its first `e` elements without the first `a` of them
pub rest_of_front : (xs : List Instr) (a e : ℕ) → a ≤ e → slice_range xs a e ≡ drop a (take e xs)
rest_of_front xs a e l = sym ((let q : e ≡ a + (e - a) = omega arith in ap (λ n. drop a (take n xs)) q)
    ∙ drop-take a (e - a) xs)

-- the exchange right after xs swaps the two elements there
pub exchanged_seam : (xs : List Instr) (a b : Instr) (ys : List Instr) → exchanged (xs ++ a ∷ b ∷ ys) (length xs) ≡ xs
    ++ b ∷ a ∷ ys
exchanged_seam [] a b ys = refl
exchanged_seam (x ∷ xs) a b ys = ap (λ z. x ∷ z) (exchanged_seam xs a b ys)

-- COUNTS

-- one more element raises the count from a place on by 1 if it passes the test
pub count_more : (test : Instr → Bool) (xs : List Instr) (a : ℕ) (x : Instr) → a ≤ length xs →
    count_by test (drop a (xs ++ x ∷ [])) ≡ count_by test (drop a xs) + cond (test x) 1 0
count_more test xs a x l =
    ap (count_by test) (drop-append-le a xs (x ∷ []) l)
    ∙ sum_by-append (λ y. cond (test y) 1 0) (drop a xs) (x ∷ [])
    ∙ ap (λ n. count_by test (drop a xs) + n) (sum_by-cons (λ y. cond (test y) 1 0) x []
    ∙ (let z : cond (test x) 1 0 + 0 ≡ cond (test x) 1 0 = omega arith in z))
