-- The type of a run is the one that all its cells have.
use Rattle.std.proofs.Common.{◌≡◌, ◌↔◌, ⊎_elim, ◌<◌, ◌≤◌, ◌+◌, ◌-◌, ℕ, zero, suc, Bool, true, false, if◌then◌else◌}
use Rattle.std.proofs.Common.{List, [], ◌∷◌, length, take, drop, slice_get, slice_range, Option, Some, None, refl, sym}
use Rattle.std.proofs.Common.{ap, ◌∙◌, subst, arith, nat_lt}
use Rattle.std.specs.List.{list_all}
use Rattle.std.specs.Option.{option_map}
use Rattle.std.proofs.lemmas.Bool.{and_parts, le-leb, lt-ltb, ltb-true}
use Rattle.std.proofs.lemmas.Option.{slice_get-map, slice_get_cases}
use Rattle.ft_isa.specs.Words.{cell_address}
use Rattle.ft_isa.specs.declared.basic.Basic.{Basic}
use Rattle.ft_isa.proofs.Lists.{get_taken, get_dropped, all_pass}
use Rattle.ft_types.specs.declared.object.Object.{Object}
use Rattle.ft_types.specs.declared.object.Cell.{Cell}
use Rattle.ft_types.specs.Objects.{basic_of}
use Rattle.ft_typing.specs.TypedWord.{cell_of, cell_type, same_basic, common_type, types_of_run, only_referable}
use Rattle.ft_typing.specs.TypedWord.{run_type, IsRunOf}
use Rattle.ft_typing.proofs.TypedWords.{same_basic_is, is_same_basic}

-- looking up the address of cell k finds cell k
pub cell_at_address : (o : Object) (k : ℕ) → cell_of o (cell_address k) ≡ slice_get o.cells k
unfolding cell_of
cell_at_address o k =
    let z : cell_address k - cell_address 0 ≡ k = omega arith in
    ap (λ b. if b then slice_get o.cells (cell_address k - cell_address 0)
    else None) (le-leb (cell_address 0) (cell_address k) (omega arith)) ∙ ap (slice_get o.cells) z

-- an index into the first n elements is below n
taken_within : {X : Type 0} (n : ℕ) (xs : List X) (k : ℕ) (x : X) → slice_get (take n xs) k ≡ Some x → k < n
taken_within zero xs k x e = cc
taken_within (suc n) [] k x e = cc
taken_within (suc n) (y ∷ xs) zero x e = omega arith
taken_within (suc n) (y ∷ xs) (suc k) x e = let h = taken_within n xs k x e in omega (arith, h)

-- the m elements from number `first` on are the first m after `first` elements are dropped
range_is : {X : Type 0} (xs : List X) (first m : ℕ) → slice_range xs first (first + m) ≡ take m (drop first xs)
range_is xs first m = let n : first + m - first ≡ m = omega arith in rw n refl

-- type k of a run is the type of the cell at the address of cell `first` + k
type_there : (o : Object) (first m k : ℕ) → k < m → slice_get (types_of_run o first m) k
    ≡ cell_type o (cell_address (first + k))
type_there o first m k l =
    slice_get-map basic_of (slice_range o.cells first (first + m)) k
    ∙ ap (option_map basic_of) (ap (λ xs. slice_get xs k) (range_is o.cells first m)
    ∙ get_taken m (drop first o.cells) k l ∙ get_dropped first o.cells k ∙ sym (cell_at_address o (first + k)))

-- an index into a run is below its length
type_within : (o : Object) (first m k : ℕ) (b : Basic) → slice_get (types_of_run o first m) k ≡ Some b → k < m
type_within o first m k b e = go (slice_get (slice_range o.cells first (first + m)) k) refl
    (sym (slice_get-map basic_of (slice_range o.cells first (first + m)) k) ∙ e)
  where
    go : (x : Option Cell) → slice_get (slice_range o.cells first (first + m)) k ≡ x → option_map basic_of x ≡ Some b →
        k < m
    go None f g = cc
    go (Some c) f g = taken_within m (drop first o.cells) k c
        (ap (λ xs. slice_get xs k) (sym (range_is o.cells first m)) ∙ f)

-- if all elements of a list pass a test, the element at each index does
all_at : {X : Type 0} (p : X → Bool) (xs : List X) (k : ℕ) (x : X) → list_all p xs ≡ true → slice_get xs k ≡ Some x →
    p x ≡ true
all_at p [] k x h e = cc
all_at p (y ∷ xs) zero x h e = let same : y ≡ x = cc in rw (sym same) (and_parts (p y) (list_all p xs) h).0
all_at p (y ∷ xs) (suc k) x h e = all_at p xs k x (and_parts (p y) (list_all p xs) h).1 e

-- each type in the list equals the common type
common_is : (xs : List Basic) (b : Basic) → common_type xs ≡ Some b → (k : ℕ) (x : Basic) → slice_get xs k ≡ Some x → x
    ≡ b
unfolding common_type
common_is [] b e k x f = cc
common_is (y ∷ ys) b e k x f = go (list_all (same_basic y) ys) refl e k f
  where
    go : (t : Bool) → list_all (same_basic y) ys ≡ t → (if t then Some y else None) ≡ Some b → (j : ℕ) →
        slice_get (y ∷ ys) j ≡ Some x → x ≡ b
    go false h e j f = cc
    go true h e zero f = cc
    go true h e (suc j) f = let same : y ≡ b = cc in sym (same_basic_is y x (all_at (same_basic y) ys j x h f)) ∙ same

-- if the list is not empty and each type in it is b, the common type is b
is_common : (xs : List Basic) (b : Basic) → slice_get xs 0 ≡ Some b →
    ((k : ℕ) (x : Basic) → slice_get xs k ≡ Some x → x ≡ b) → common_type xs ≡ Some b
unfolding common_type
is_common [] b e h = cc
is_common (y ∷ ys) b e h =
    let same : y ≡ b = cc in
    rw (all_pass (same_basic y) ys (λ k x f. is_same_basic y x (same ∙ sym (h (suc k) x f)))) (ap Some same)

-- `only_referable` keeps only a type to which a `ref` can refer
referable_is : (x : Option Basic) (b : Basic) → only_referable x ≡ Some b → (x ≡ Some b) × (b.refs < 8)
referable_is None b e = cc
referable_is (Some a) b e = go (nat_lt a.refs 8) refl e
  where
    go : (t : Bool) → nat_lt a.refs 8 ≡ t → (if t then Some a else None) ≡ Some b →
        (◌≡◌ {A = Option Basic} (Some a) (Some b)) × (b.refs < 8)
    go false h e = cc
    go true h e = let same : a ≡ b = cc in (e, subst (λ c. c.refs < 8) same (ltb-true a.refs 8 h))

-- a run has a type exactly when all its cells have that type and a `ref` can refer to it
pub run_type_is : (o : Object) (first m : ℕ) (b : Basic) → 1 ≤ m → first + m ≤ length o.cells → run_type o first m
    ≡ Some b ↔ IsRunOf o first m b
unfolding run_type
run_type_is o first m b some within = (
  λ e.
      let p = referable_is (common_type (types_of_run o first m)) b e in
      record {
        each = λ k l. ⊎_elim
            (λ there.
            let t : cell_type o (cell_address (first + k))
            ≡ Some there.0.basic = ap (option_map basic_of) (cell_at_address o (first + k) ∙ there.2) in
            t ∙ ap Some (common_is (types_of_run o first m) b p.0 k there.0.basic (type_there o first m k l ∙ t)))
            (λ past. absurd (omega (arith, past.0, l, within)))
            (slice_get_cases o.cells (first + k)).1;
        referable = p.1;
      },
  λ h.
      let c = is_common (types_of_run o first m) b (type_there o first m 0 some ∙ h.each 0 some) (λ k x e.
      let l = type_within o first m k x e in
      let same : Some x ≡ Some b = sym e ∙ type_there o first m k l ∙ h.each k l in
      cc) in
      rw (c, lt-ltb b.refs 8 h.referable) refl,
)
