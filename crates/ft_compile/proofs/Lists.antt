-- Prefixes of lists, and their elements.
use Rattle.std.proofs.Common.{◌≡◌, ℕ, ◌≤◌, List, [], ◌∷◌, ◌++◌, length, Some, refl, sym, ap, ◌∙◌, subst, arith}
use Rattle.std.proofs.Common.{append_assoc, length-append, slice_get}
use Rattle.std.proofs.lemmas.List.{append-nil}
use Rattle.ft_isa.proofs.Lists.{there_front}

-- the first list is a prefix of the second
abbrev pub Starts : {X : Type 0} → List X → List X → Type 0
Starts {X} xs ys = (rest : List X) × (xs ++ rest ≡ ys)

-- a list is a prefix of itself
pub starts_refl : {X : Type 0} (xs : List X) → Starts xs xs
starts_refl xs = ([], append-nil xs)

-- a prefix of a prefix is a prefix of the whole
pub starts_trans : {X : Type 0} (xs ys zs : List X) → Starts xs ys → Starts ys zs → Starts xs zs
starts_trans xs ys zs p q = (p.0 ++ q.0, sym (append_assoc xs p.0 q.0) ∙ ap (λ l. l ++ q.0) p.1 ∙ q.1)

-- a prefix is at most as long as the list
pub starts_length : {X : Type 0} (xs ys : List X) → Starts xs ys → length xs ≤ length ys
starts_length xs ys p = let e = length-append xs p.0 in let f = ap length p.1 in omega arith

-- an element of a prefix is at the same place in the list
pub get_starts : {X : Type 0} (xs ys : List X) (k : ℕ) (x : X) → Starts xs ys → slice_get xs k ≡ Some x → slice_get ys k
    ≡ Some x
get_starts xs ys k x p e = subst (λ l. slice_get l k ≡ Some x) p.1 (there_front xs p.0 k x e)

-- a prefix without its last element is a prefix
pub starts_less : {X : Type 0} (xs ys : List X) (x : X) → Starts (xs ++ x ∷ []) ys → Starts xs ys
starts_less xs ys x s = starts_trans xs (xs ++ x ∷ []) ys (x ∷ [], refl) s

-- a prefix is still a prefix when an element is appended to the list
pub starts_more : {X : Type 0} (xs ys : List X) (y : X) → Starts xs ys → Starts xs (ys ++ y ∷ [])
starts_more xs ys y s = starts_trans xs ys (ys ++ y ∷ []) s (y ∷ [], refl)

-- an appended element is the last
pub get_last : {X : Type 0} (xs : List X) (x : X) → slice_get (xs ++ x ∷ []) (length xs) ≡ Some x
get_last [] x = refl
get_last (y ∷ ys) x = get_last ys x

-- the last element of a prefix is in the list
pub get_newest : {X : Type 0} (xs ys : List X) (x : X) → Starts (xs ++ x ∷ []) ys → slice_get ys (length xs) ≡ Some x
get_newest xs ys x s = get_starts (xs ++ x ∷ []) ys (length xs) x s (get_last xs x)
