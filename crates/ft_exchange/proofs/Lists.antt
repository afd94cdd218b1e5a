-- Lists with two neighbours exchanged.
use Rattle.std.proofs.Common.{◌≡◌, ℕ, zero, suc, ◌+◌, ◌-◌, ◌<◌, ◌≤◌, List, [], ◌∷◌, length, take, drop, Some, None}
use Rattle.std.proofs.Common.{slice_get, refl, sym, ap, ◌∙◌, subst, arith}
use Rattle.std.specs.Prelude.{All}
use Rattle.std.specs.List.{slice_range}
use Rattle.std.proofs.lemmas.Option.{slice_get_within, slice_get-get_or, get_or_from_slice_get}
use Rattle.ft_isa.specs.declared.instr.Instr.{Instr}
use Rattle.ft_isa.proofs.Lists.{get_dropped}
use Rattle.ft_types.specs.Spellable.{before, subst_of, substs_of}
use Rattle.ft_exchange.specs.Exchange.{exchanged}

pub length-exchanged : (is : List Instr) (n : ℕ) → length (exchanged is n) ≡ length is
length-exchanged [] n = refl
length-exchanged (i ∷ is) (suc n) = ap suc (length-exchanged is n)
length-exchanged (i ∷ []) zero = refl
length-exchanged (i ∷ j ∷ is) zero = refl

-- PARTS

-- in the rest from a place before the exchange, the same two elements are swapped
drop_before : (a : ℕ) (is : List Instr) (n k : ℕ) → n ≡ a + k → drop a (exchanged is n) ≡ exchanged (drop a is) k
drop_before zero is n k e = ap (exchanged is) (omega arith)
drop_before (suc a) [] n k e = refl
drop_before (suc a) (i ∷ is) zero k e = absurd (omega arith)
drop_before (suc a) (i ∷ is) (suc n) k e = drop_before a is n k (omega arith)

-- the rest from a place after the exchange is unchanged
drop_after : (a : ℕ) (is : List Instr) (n : ℕ) → n + 2 ≤ a → drop a (exchanged is n) ≡ drop a is
drop_after a [] n h = refl
drop_after zero (i ∷ is) n h = absurd (omega arith)
drop_after (suc a) (i ∷ is) (suc n) h = drop_after a is n (omega arith)
drop_after (suc a) (i ∷ []) zero h = refl
drop_after (suc zero) (i ∷ j ∷ is) zero h = absurd (omega arith)
drop_after (suc (suc a)) (i ∷ j ∷ is) zero h = refl

-- in the front up to a place after the exchange, the same two elements are swapped
pub take_around : (m : ℕ) (is : List Instr) (k : ℕ) → k + 2 ≤ m → take m (exchanged is k) ≡ exchanged (take m is) k
take_around zero is k h = absurd (omega arith)
take_around (suc m) [] k h = refl
take_around (suc m) (i ∷ is) (suc k) h = ap (λ z. i ∷ z) (take_around m is k (omega arith))
take_around (suc zero) (i ∷ is) zero h = absurd (omega arith)
take_around (suc (suc m)) (i ∷ []) zero h = refl
take_around (suc (suc m)) (i ∷ j ∷ is) zero h = refl

-- the front up to a place before the exchange is unchanged
pub take_before : (m : ℕ) (is : List Instr) (k : ℕ) → m ≤ k → take m (exchanged is k) ≡ take m is
take_before zero is k h = refl
take_before (suc m) [] k h = refl
take_before (suc m) (i ∷ is) zero h = absurd (omega arith)
take_before (suc m) (i ∷ is) (suc k) h = ap (λ z. i ∷ z) (take_before m is k (omega arith))

-- in a part that contains the exchange, the same two elements are swapped
pub range_around : (is : List Instr) (n k a e : ℕ) → n ≡ a + k → n + 2 ≤ e → slice_range (exchanged is n) a e
    ≡ exchanged (slice_range is a e) k
range_around is n k a e p h = ap (take (e - a)) (drop_before a is n k p)
    ∙ take_around (e - a) (drop a is) k (omega arith)

-- a part before the exchange is unchanged
pub range_before : (is : List Instr) (n a e : ℕ) → a ≤ n → e ≤ n → slice_range (exchanged is n) a e ≡ slice_range is a e
range_before is n a e h l = ap (take (e - a)) (drop_before a is n (n - a) (omega arith))
    ∙ take_before (e - a) (drop a is) (n - a) (omega arith)

-- a part after the exchange is unchanged
pub range_after : (is : List Instr) (n a e : ℕ) → n + 2 ≤ a → slice_range (exchanged is n) a e ≡ slice_range is a e
range_after is n a e h = ap (take (e - a)) (drop_after a is n h)

-- ELEMENTS

-- an element of a front is the same element of the list, before the front's end
get-take : (m : ℕ) (is : List Instr) (k : ℕ) (i : Instr) → slice_get (take m is) k ≡ Some i → (k < m)
    × (slice_get is k ≡ Some i)
get-take zero is k i e = cc
get-take (suc m) [] k i e = cc
get-take (suc m) (x ∷ is) zero i e = (omega arith, e)
get-take (suc m) (x ∷ is) (suc k) i e = let h = get-take m is k i e in (let l = h.0 in omega arith, h.1)

-- element k of the part from `a` on is element `a` + k of the list, before the part's end
pub get-range : (is : List Instr) (a e k : ℕ) (i : Instr) → slice_get (slice_range is a e) k ≡ Some i → (a + k < e)
    × (slice_get is (a + k) ≡ Some i)
get-range is a e k i f =
    let g = get-take (e - a) (drop a is) k i f in
    (let l = g.0 in omega arith, sym (get_dropped a is k) ∙ g.1)

-- each element of the new list is one of the old
pub from_exchanged : (is : List Instr) (n k : ℕ) (x : Instr) → slice_get (exchanged is n) k ≡ Some x → (j : ℕ)
    × (slice_get is j ≡ Some x)
from_exchanged [] n k x e = cc
from_exchanged (i ∷ is) (suc n) zero x e = (0, e)
from_exchanged (i ∷ is) (suc n) (suc k) x e = let h = from_exchanged is n k x e in (suc h.0, h.1)
from_exchanged (i ∷ []) zero k x e = (k, e)
from_exchanged (i ∷ j ∷ is) zero zero x e = (1, e)
from_exchanged (i ∷ j ∷ is) zero (suc zero) x e = (0, e)
from_exchanged (i ∷ j ∷ is) zero (suc (suc k)) x e = (suc (suc k), e)

-- what holds of all elements holds of those of the new list
pub all_exchanged : (P : Instr → Type 0) (is : List Instr) (n : ℕ) → All P is → All P (exchanged is n)
all_exchanged P is n h k d lt =
    let x = slice_get-get_or (exchanged is n) k d lt in
    let f = from_exchanged is n k _ x in
    subst P (get_or_from_slice_get is f.0 _ d f.1) (h f.0 d (slice_get_within is f.0 _ f.1))

-- exchanging two instructions without substitutions leaves the list of substitutions unchanged
pub substs_exchanged : (is : List Instr) (n : ℕ) (a b : Instr) → slice_get is n ≡ Some a → slice_get is (suc n)
    ≡ Some b → subst_of a ≡ None → subst_of b ≡ None → substs_of (exchanged is n) ≡ substs_of is
substs_exchanged [] n a b ea eb na nb = refl
substs_exchanged (i ∷ is) (suc n) a b ea eb na nb = ap (before (subst_of i)) (substs_exchanged is n a b ea eb na nb)
substs_exchanged (i ∷ []) zero a b ea eb na nb = refl
substs_exchanged (i ∷ j ∷ is) zero a b ea eb na nb =
    let ia : i ≡ a = cc in
    let jb : j ≡ b = cc in
    let ni : subst_of i ≡ None = ap subst_of ia ∙ na in
    let nj : subst_of j ≡ None = ap subst_of jb ∙ nb in
    (λ x. before (nj x) (before (ni x) (substs_of is))) ∙ sym (λ x. before (ni x) (before (nj x) (substs_of is)))

-- in the new list, the two elements are swapped and the others are where they were
pub get_first : (is : List Instr) (n : ℕ) (a b : Instr) → slice_get is n ≡ Some a → slice_get is (suc n) ≡ Some b →
    slice_get (exchanged is n) n ≡ Some b
get_first [] n a b ea eb = cc
get_first (i ∷ is) (suc n) a b ea eb = get_first is n a b ea eb
get_first (i ∷ []) zero a b ea eb = cc
get_first (i ∷ j ∷ is) zero a b ea eb = eb

pub get_second : (is : List Instr) (n : ℕ) (a b : Instr) → slice_get is n ≡ Some a → slice_get is (suc n) ≡ Some b →
    slice_get (exchanged is n) (suc n) ≡ Some a
get_second [] n a b ea eb = cc
get_second (i ∷ is) (suc n) a b ea eb = get_second is n a b ea eb
get_second (i ∷ []) zero a b ea eb = cc
get_second (i ∷ j ∷ is) zero a b ea eb = ea

pub get_other : (is : List Instr) (n k : ℕ) → (k ≡ n → ⊥) → (k ≡ suc n → ⊥) → slice_get (exchanged is n) k
    ≡ slice_get is k
get_other [] n k h l = refl
get_other (i ∷ is) (suc n) zero h l = refl
get_other (i ∷ is) (suc n) (suc k) h l = get_other is n k (λ e. h (ap suc e)) (λ e. l (ap suc e))
get_other (i ∷ []) zero k h l = refl
get_other (i ∷ j ∷ is) zero zero h l = absurd (h refl)
get_other (i ∷ j ∷ is) zero (suc zero) h l = absurd (l refl)
get_other (i ∷ j ∷ is) zero (suc (suc k)) h l = refl
