-- The code type of a block states what is known where the block begins.
use Rattle.std.proofs.Common.{◌≡◌, ℕ, zero, suc, ◌+◌, ◌<◌, ◌≤◌, Bool, true, false, cond, ◌==◌, List, [], ◌∷◌, ◌++◌, ◌⊎◌}
use Rattle.std.proofs.Common.{inl, inr, Some, refl, sym, ap, ◌∙◌, subst, arith, slice_get, map, eq-eqb, eqb-true}
use Rattle.std.specs.Prelude.{slice_index}
use Rattle.std.specs.List.{range_with_len}
use Rattle.std.specs.FinMap as finite
use Rattle.std.proofs.lemmas.Bool.{ltb-true}
use Rattle.std.proofs.lemmas.List.FromFn.{length-range_with_len}
use Rattle.ft_isa.specs.declared.colour.Colour.TheVariants.{Green, Blue}
use Rattle.ft_types.specs.declared.object.Object.{Object}
use Rattle.ft_types.specs.declared.object.RegType.{RegType}
use Rattle.ft_typing.specs.Context.{Typed, typed_row, registers_after, start_context, integer_form_of, memory_form_of}
use Rattle.ft_typing.specs.Context.{queue_pair, TypedRegisters}
use Rattle.ft_isa.specs.BasicTypes.{int}
use Rattle.ft_types.proofs.Maps.{get-insert}
use Rattle.ft_lower.specs.Well.{known_first}
use Rattle.ft_dup.specs.Images.{green, blue}
use Rattle.ft_dup.proofs.Pairs.{blue_number}
use Rattle.ft_compile.specs.Emitted.{green_row, blue_row}
use Rattle.ft_compile.specs.Noted.{first_pairs, scope_of_block}
use Rattle.ft_compile.proofs.Walked.{first_pair}
use Rattle.ft_compile.proofs.Forms.{green_number}
use Rattle.ft_compile.proofs.KnownPairs.{green_is_not_blue, blue_is_not_green, IsGood}
use Rattle.ft_compile.proofs.BlockTypes.{HasTypes, AreRows, type_rows}
use Rattle.ft_compile.proofs.PremiseRows.{ty}

-- a register keeps its type over rows that all give it this type
row_later : (o : Object) (m : TypedRegisters) (xs : List RegType) (r : ℕ) (t : Typed) → finite.get m r ≡ Some t →
    ((n : ℕ) (x : RegType) → slice_get xs n ≡ Some x → r ≡ x.reg.number → typed_row o x ≡ t) →
    finite.get (registers_after o m xs) r ≡ Some t
unfolding registers_after
row_later o m [] r t e h = e
row_later o m (x ∷ xs) r t e h = row_later o (finite.insert m x.reg.number (typed_row o x)) xs r t
    (get-insert m x.reg.number (typed_row o x) r ∙ here (r == x.reg.number) refl) (λ n y f g. h (suc n) y f g)
  where
    here : (b : Bool) → (r == x.reg.number) ≡ b → cond b (Some (typed_row o x)) (finite.get m r) ≡ Some t
    here true f = ap Some (h 0 x refl (eqb-true r x.reg.number f))
    here false f = e

-- a register has the type that one of its rows gives, if all its rows give the same type
row_there : (o : Object) (m : TypedRegisters) (xs : List RegType) (r : ℕ) (t : Typed) (n : ℕ) (x : RegType) →
    slice_get xs n ≡ Some x → r ≡ x.reg.number → ((n : ℕ) (x : RegType) → slice_get xs n ≡ Some x → r ≡ x.reg.number →
    typed_row o x ≡ t) → finite.get (registers_after o m xs) r ≡ Some t
unfolding registers_after
row_there o m [] r t n x f e h = cc
row_there o m (y ∷ ys) r t zero x f e h =
    let g : y ≡ x = cc in
    let e2 : r ≡ y.reg.number = e ∙ ap (λ (z : RegType). z.reg.number) (sym g) in
    row_later o (finite.insert m y.reg.number (typed_row o y)) ys r t
    (get-insert m y.reg.number (typed_row o y) r ∙ ap (λ b. cond b (Some (typed_row o y)) (finite.get m r))
    (eq-eqb r y.reg.number e2) ∙ ap Some (h 0 y refl e2)) (λ k z a b. h (suc k) z a b)
row_there o m (y ∷ ys) r t (suc n) x f e h = row_there o (finite.insert m y.reg.number (typed_row o y)) ys r t n x f e
    (λ k z a b. h (suc k) z a b)

-- the green row of a variable is in its place
green_there : (a n i : ℕ) (rest : List RegType) → i < n → slice_get (map green_row (range_with_len a n) ++ rest) i
    ≡ Some (green_row (a + i))
green_there a zero i rest lt = absurd (omega (arith, lt))
green_there a (suc n) zero rest lt = let z : a ≡ a + 0 = omega arith in ap (λ j. Some (green_row j)) z
green_there a (suc n) (suc i) rest lt = let z : a + 1 + i ≡ a + suc i = omega arith in
    green_there (a + 1) n i rest (omega (arith, lt)) ∙ ap (λ j. Some (green_row j)) z

-- the blue row of a variable is in its place
blue_there : (a n i : ℕ) → i < n → slice_get (map blue_row (range_with_len a n)) i ≡ Some (blue_row (a + i))
blue_there a zero i lt = absurd (omega (arith, lt))
blue_there a (suc n) zero lt = let z : a ≡ a + 0 = omega arith in ap (λ j. Some (blue_row j)) z
blue_there a (suc n) (suc i) lt = let z : a + 1 + i ≡ a + suc i = omega arith in
    blue_there (a + 1) n i (omega (arith, lt)) ∙ ap (λ j. Some (blue_row j)) z

-- the green rows are followed by the rest
after_green : (a n : ℕ) (rest : List RegType) (i : ℕ) → slice_get (map green_row (range_with_len a n) ++ rest) (n + i)
    ≡ slice_get rest i
after_green a zero rest i = let z : 0 + i ≡ i = omega arith in ap (slice_get rest) z
after_green a (suc n) rest i = let z : suc n + i ≡ suc (n + i) = omega arith in
    ap (slice_get (map green_row (range_with_len a (suc n)) ++ rest)) z ∙ after_green (a + 1) n rest i

-- each row is the green or blue row of a variable
row_at : (n : ℕ) (xs : List RegType) (k : ℕ) (x : RegType) → AreRows n xs → slice_get xs k ≡ Some x → (i : ℕ) × (i < n)
    × ((x ≡ green_row i) ⊎ (x ≡ blue_row i))
row_at n [] k x h e = cc
row_at n (y ∷ ys) zero x h e = let f : y ≡ x = cc in
    subst (λ z. (i : ℕ) × (i < n) × ((z ≡ green_row i) ⊎ (z ≡ blue_row i))) f h.0
row_at n (y ∷ ys) (suc k) x h e = row_at n ys k x h.1 e

module _ (o : Object) (vars : ℕ) (T : HasTypes o vars) where
  -- the rows of code type 1
  abbrev all_rows : List RegType
  all_rows = map green_row (range_with_len 0 vars) ++ map blue_row (range_with_len 0 vars)

  -- all rows for the green register of a variable give it the same type
  green_only : (q : ℕ) → q < vars → (n : ℕ) (x : RegType) → slice_get all_rows n ≡ Some x → (green q).number
      ≡ x.reg.number → typed_row o x ≡ ty Green int (integer_form_of o (1 + q))
  green_only q lt n x e f = go (row_at vars all_rows n x (type_rows vars) e)
    where
      few : vars ≤ 32
      few = T.few

      go : (i : ℕ) × (i < vars) × ((x ≡ green_row i) ⊎ (x ≡ blue_row i)) → typed_row o x
          ≡ ty Green int (integer_form_of o (1 + q))
      go (i, li, inl g) =
          let h : (green q).number ≡ (green i).number = f ∙ ap (λ (z : RegType). z.reg.number) g in
          let same : i ≡ q = sym (green_number i (omega (arith, few, li))) ∙ sym h
          ∙ green_number q (omega (arith, few, lt)) in
          ap (typed_row o) g ∙ ap (λ j. ty Green int (integer_form_of o (1 + j))) same
      go (i, li, inr g) = absurd (green_is_not_blue i q (omega (arith, few, li)) (omega (arith, few, lt)) (f
          ∙ ap (λ (z : RegType). z.reg.number) g))

  -- all rows for the blue register of a variable give it the same type
  blue_only : (q : ℕ) → q < vars → (n : ℕ) (x : RegType) → slice_get all_rows n ≡ Some x → (blue q).number
      ≡ x.reg.number → typed_row o x ≡ ty Blue int (integer_form_of o (1 + q))
  blue_only q lt n x e f = go (row_at vars all_rows n x (type_rows vars) e)
    where
      few : vars ≤ 32
      few = T.few

      go : (i : ℕ) × (i < vars) × ((x ≡ green_row i) ⊎ (x ≡ blue_row i)) → typed_row o x
          ≡ ty Blue int (integer_form_of o (1 + q))
      go (i, li, inl g) = absurd (blue_is_not_green i q (omega (arith, few, li)) (omega (arith, few, lt)) (f
          ∙ ap (λ (z : RegType). z.reg.number) g))
      go (i, li, inr g) =
          let h : (blue q).number ≡ (blue i).number = f ∙ ap (λ (z : RegType). z.reg.number) g in
          let k : 32 + i ≡ 32 + q = sym (blue_number i (omega (arith, few, li))) ∙ sym h
          ∙ blue_number q (omega (arith, few, lt)) in
          let same : i ≡ q = omega arith in
          ap (typed_row o) g ∙ ap (λ j. ty Blue int (integer_form_of o (1 + j))) same

  -- where a block begins, each variable's pair has the variable's node
  first_node : (q : ℕ) → q < vars → 1 + q ≡ slice_index first_pairs q
  first_node q lt = let few = T.few in let e = first_pair q (omega arith) in omega arith

  -- the code type of block b
  abbrev pub type_of_block : ℕ → ℕ
  type_of_block zero = 0
  type_of_block (suc b) = 1

  -- the context with which block b starts fits what is known there
  pub begins_good : (b : ℕ) → IsGood o (scope_of_block vars b) (known_first vars b) first_pairs 0
      (start_context o (type_of_block b))
  unfolding registers_after
  begins_good zero = record {
    green_pair = λ q known. absurd (no known);
    blue_pair = λ q known. absurd (no known);
    small = λ q known. absurd (no known);
    many = length-range_with_len 1 32;
    zero = refl;
    queue = ap (map (queue_pair o)) T.entry_queue;
    memory_is = ap (memory_form_of o) T.entry_memory;
    ints = T.entry_ints;
  }
    where
      no : false ≡ true → ⊥
      no e = cc
  begins_good (suc b) = record {
    green_pair = λ q known.
        let lt : q < vars = ltb-true q vars known in
        ap (λ xs. finite.get (registers_after o finite.empty xs) (green q).number) T.rows
        ∙ row_there o finite.empty all_rows (green q).number (ty Green int (integer_form_of o (1 + q))) q
        (green_row (0 + q)) (green_there 0 vars q (map blue_row (range_with_len 0 vars)) lt) (let z : q
        ≡ 0 + q = omega arith in ap (λ j. (green j).number) z) (green_only q lt)
        ∙ ap (λ n. Some (ty Green int (integer_form_of o n))) (first_node q lt);
    blue_pair = λ q known.
        let lt : q < vars = ltb-true q vars known in
        ap (λ xs. finite.get (registers_after o finite.empty xs) (blue q).number) T.rows
        ∙ row_there o finite.empty all_rows (blue q).number (ty Blue int (integer_form_of o (1 + q))) (vars + q)
        (blue_row (0 + q)) (after_green 0 vars (map blue_row (range_with_len 0 vars)) q
        ∙ blue_there 0 vars q lt) (let z : q ≡ 0 + q = omega arith in ap (λ j. (blue j).number) z) (blue_only q lt)
        ∙ ap (λ n. Some (ty Blue int (integer_form_of o n))) (first_node q lt);
    small = λ q known. let lt : q < vars = ltb-true q vars known in let few = T.few in omega arith;
    many = length-range_with_len 1 32;
    zero = refl;
    queue = ap (map (queue_pair o)) T.queue;
    memory_is = ap (memory_form_of o) T.memory;
    ints = T.ints;
  }
