-- Tables laid one after another: each module's part is in its place, and there is nothing else.
use Rattle.std.proofs.Common.{◌≡◌, ◌⊎◌, inl, inr, ⊎_elim, ℕ, zero, suc, ◌+◌, ◌-◌, ◌≤◌, List, [], ◌∷◌, ◌++◌, length}
use Rattle.std.proofs.Common.{take, drop, slice_get, Some, None, refl, sym, ap, ◌∙◌, arith}
use Rattle.std.specs.Prelude.{slice_range, sum_by}
use Rattle.std.proofs.lemmas.List.Sums.{sum_by-cons}
use Rattle.std.proofs.lemmas.List.{append_assoc, length-append, length-drop, drop-append-le, take-append-le}
use Rattle.std.proofs.Math.Seq.{drop-append-add}
use Rattle.ft_isa.proofs.Lists.{there_front}
use Rattle.ft_types.specs.declared.object.Object.{Object}
use Rattle.ft_modules.specs.declared.before.Before.{Before}
use Rattle.ft_modules.specs.Linked.{after_module, before_module, laid}

-- ELEMENTS OF APPENDED LISTS

-- an element of the second list is in the two lists appended, after the elements of the first
pub get_right : {X : Type 0} (xs ys : List X) (n k : ℕ) → n ≡ length xs + k → slice_get (xs ++ ys) n ≡ slice_get ys k
get_right [] ys n k e = (let same : n ≡ k = omega arith in ap (slice_get ys) same)
get_right (x ∷ xs) ys zero k e = absurd (omega (arith, e))
get_right (x ∷ xs) ys (suc n) k e = get_right xs ys n k (omega (arith, e))

-- an element of two appended lists is in the first or in the second
get_joined : {X : Type 0} (xs ys : List X) (n : ℕ) (x : X) → slice_get (xs ++ ys) n ≡ Some x →
    (slice_get xs n ≡ Some x) ⊎ ((k : ℕ) × (n ≡ length xs + k) × (slice_get ys k ≡ Some x))
get_joined [] ys n x e = inr (n, omega arith, e)
get_joined (y ∷ xs) ys zero x e = inl e
get_joined (y ∷ xs) ys (suc n) x e = ⊎_elim (λ h. inl h) (λ h. inr (h.0, omega (arith, h.1), h.2))
    (get_joined xs ys n x e)

-- PARTS

-- the part is in the whole, after n elements
pub record Among {X : Type 0} (whole part : List X) (n : ℕ) : Type 0 where
  pub front : List X
  pub back : List X
  pub is : whole ≡ front ++ (part ++ back)
  pub long : length front ≡ n

-- an element of the part is in the whole, n places further
pub get_among : {X : Type 0} (whole part : List X) (n k : ℕ) (x : X) → Among whole part n → slice_get part k ≡ Some x →
    slice_get whole (n + k) ≡ Some x
get_among whole part n k x a e =
    let long = a.long in
    let place : n + k ≡ length a.front + k = omega arith in
    ap (λ (z : List _). slice_get z (n + k)) a.is ∙ get_right a.front (part ++ a.back) (n + k) k place
    ∙ there_front part a.back k x e

-- a slice of the part is the slice of the whole, n places further
pub range_among : {X : Type 0} (whole part : List X) (n a b : ℕ) → Among whole part n → a ≤ b → b ≤ length part →
    slice_range whole (n + a) (n + b) ≡ slice_range part a b
range_among whole part n a b m le few =
    let long = m.long in
    let from : n + a ≡ length m.front + a = omega arith in
    let many : (n + b) - (n + a) ≡ b - a = omega arith in
    let rest = length-drop a part in
    let dropped : drop (n + a) whole ≡ drop a part ++ m.back =
    ap (drop (n + a)) m.is ∙ ap (λ k. drop k (m.front ++ (part ++ m.back))) from
    ∙ drop-append-add m.front (part ++ m.back) a ∙ drop-append-le a part m.back (omega arith) in
    (λ i. take (many i) (dropped i)) ∙ take-append-le (b - a) (drop a part) m.back (omega arith)

-- TABLES

-- a module's part of a table is in the whole table, at the module's offset
pub record Placed {X : Type 0} (part : Before → Object → List X) (offset : Before →
    ℕ) (k : Before) (modules : List Object) (m : ℕ) (o : Object) : Type 0 where
  pub front : List X
  pub back : List X
  pub is : laid part k modules ≡ front ++ (part (before_module k modules m) o ++ back)
  pub long : offset k + length front ≡ offset (before_module k modules m)

-- each module's part is in the table, at the module's offset
pub placed : {X : Type 0} (part : Before → Object → List X) (offset : Before → ℕ) →
    ((k : Before) (o : Object) → offset (after_module k o) ≡ offset k + length (part k o)) →
    (k : Before) (modules : List Object) (m : ℕ) (o : Object) → slice_get modules m ≡ Some o →
    Placed part offset k modules m o
unfolding laid before_module
placed part offset grows k [] m o e = cc
placed part offset grows k (y ∷ ys) zero o e =
    let same : y ≡ o = cc in
    record {
      front = [];
      back = laid part (after_module k y) ys;
      is = ap (λ (z : Object). part k z ++ laid part (after_module k y) ys) same;
      long = omega arith;
    }
placed part offset grows k (y ∷ ys) (suc m) o e =
    let h = placed part offset grows (after_module k y) ys m o e in
    let long = h.long in
    let grown = grows k y in
    let both = length-append (part k y) h.front in
    record {
      front = part k y ++ h.front;
      back = h.back;
      is = ap (λ (z : List _). part k y ++ z) h.is
          ∙ sym (append_assoc (part k y) h.front (part (before_module (after_module k y) ys m) o ++ h.back));
      long = omega arith;
    }

-- element n of a table is an element of some module's part
pub record Whence {X : Type 0} (part : Before → Object → List X) (offset : Before →
    ℕ) (k : Before) (modules : List Object) (n : ℕ) (x : X) : Type 0 where
  pub number : ℕ
  pub object : Object
  pub there : slice_get modules number ≡ Some object
  pub place : ℕ
  pub found : slice_get (part (before_module k modules number) object) place ≡ Some x
  pub counted : offset k + n ≡ offset (before_module k modules number) + place

-- each element of a table is an element of some module's part
pub whence : {X : Type 0} (part : Before → Object → List X) (offset : Before → ℕ) →
    ((k : Before) (o : Object) → offset (after_module k o) ≡ offset k + length (part k o)) →
    (k : Before) (modules : List Object) (n : ℕ) (x : X) → slice_get (laid part k modules) n ≡ Some x →
    Whence part offset k modules n x
unfolding laid before_module
whence part offset grows k [] n x e = cc
whence part offset grows k (y ∷ ys) n x e =
    ⊎_elim
    (λ h. record { number = 0; object = y; there = refl; place = n; found = h; counted = refl })
    (λ h.
    let w = whence part offset grows (after_module k y) ys h.0 x h.2 in
    let grown = grows k y in
    let counted = w.counted in
    let at = h.1 in
    record {
      number = suc w.number;
      object = w.object;
      there = w.there;
      place = w.place;
      found = w.found;
      counted = omega arith;
    })
    (get_joined (part k y) (laid part (after_module k y) ys) n x e)

-- the length of a table is the sum of the modules' sizes
pub laid_length : {X : Type 0} (part : Before → Object → List X) (size : Object → ℕ) →
    ((k : Before) (o : Object) → length (part k o) ≡ size o) → (k : Before) (modules : List Object) →
    length (laid part k modules) ≡ sum_by size modules
unfolding laid
laid_length part size h k [] = refl
laid_length part size h k (o ∷ os) = length-append (part k o) (laid part (after_module k o) os)
    ∙ (λ i. h k o i + laid_length part size h (after_module k o) os i) ∙ sym (sum_by-cons size o os)

-- the totals before the next module are those after this one
pub before_next : (k : Before) (modules : List Object) (m : ℕ) (o : Object) → slice_get modules m ≡ Some o →
    before_module k modules (suc m) ≡ after_module (before_module k modules m) o
unfolding before_module
before_next k [] m o e = cc
before_next k (y ∷ []) zero o e = let same : y ≡ o = cc in ap (after_module k) same
before_next k (y ∷ z ∷ zs) zero o e = let same : y ≡ o = cc in ap (after_module k) same
before_next k (y ∷ ys) (suc m) o e = before_next (after_module k y) ys m o e

-- the length of a table is the offset after the last module
pub laid_to_end : {X : Type 0} (part : Before → Object → List X) (offset : Before → ℕ) →
    ((k : Before) (o : Object) → offset (after_module k o) ≡ offset k + length (part k o)) →
    (k : Before) (modules : List Object) (m : ℕ) (o : Object) → slice_get modules m ≡ Some o → slice_get modules (suc m)
    ≡ None → offset k + length (laid part k modules) ≡ offset (before_module k modules (suc m))
unfolding laid before_module
laid_to_end part offset grows k [] m o e f = cc
laid_to_end part offset grows k (y ∷ []) zero o e f =
    let both = length-append (part k y) [] in
    let grown = grows k y in
    omega arith
laid_to_end part offset grows k (y ∷ z ∷ zs) zero o e f = cc
laid_to_end part offset grows k (y ∷ ys) (suc m) o e f =
    let h = laid_to_end part offset grows (after_module k y) ys m o e f in
    let both = length-append (part k y) (laid part (after_module k y) ys) in
    let grown = grows k y in
    omega arith
