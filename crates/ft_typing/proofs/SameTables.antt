-- Typing an instruction depends on the object's tables and on the types of its cells, but not on the cells' initial
-- words or on the object's instructions.
use Rattle.std.proofs.Common.{◌≡◌, ℕ, zero, suc, ◌+◌, ◌-◌, ◌&&◌, true, false, List, [], ◌∷◌, map, Option, Some, None}
use Rattle.std.proofs.Common.{is_some, slice_get, take, drop, refl, sym, ap, ◌∙◌}
use Rattle.std.specs.Prelude.{Bool, nat_le, if◌then◌else◌}
use Rattle.std.specs.List.{list_all}
use Rattle.std.specs.Option.{option_map, unwrap_or}
use Rattle.std.specs.FinMap as finite
use Rattle.std.proofs.lemmas.List.{take-map, drop-map}
use Rattle.std.proofs.lemmas.Option.{slice_get-map}
use Rattle.ft_isa.specs.Words.{cell_address}
use Rattle.ft_isa.specs.BasicTypes.{int, ref}
use Rattle.ft_isa.specs.declared.basic.Base.{Base}
use Rattle.ft_isa.specs.declared.basic.Base.TheVariants.{Int, Code}
use Rattle.ft_isa.specs.declared.basic.Basic.{Basic}
use Rattle.ft_isa.specs.declared.instr.Subst.{Subst}
use Rattle.ft_isa.specs.declared.instr.Instr.{Instr}
use Rattle.ft_isa.specs.declared.instr.Instr.TheVariants.{Idx}
use Rattle.ft_static.specs.Form.{same_polynomial, same_updates}
use Rattle.ft_types.specs.declared.object.Object.{Object}
use Rattle.ft_types.specs.declared.object.Cell.{Cell}
use Rattle.ft_types.specs.declared.object.RegType.{RegType}
use Rattle.ft_types.specs.Objects.{basic_of, reg_rows, queue_rows, memory_of}
use Rattle.ft_typing.specs.TypedWord.{cell_of, cell_type, block_at, HasTypeOver, has_type_over, has_type, types_of_run}
use Rattle.ft_typing.specs.TypedWord.{common_type, only_referable, run_type, is_cell_type}
use Rattle.ft_typing.specs.Context.{Typed, TypedRegisters, FormPair, Context, typed, with_type, integer_form_of}
use Rattle.ft_typing.specs.Context.{memory_form_of, Replacement, integer_form_after, memory_form_after, replacement}
use Rattle.ft_typing.specs.Context.{typed_row, registers_after, queue_pair, start_context}
use Rattle.ft_typing.specs.TypingRow.{row, tests, effect, first_failing, refused_or}
use Rattle.ft_typing.specs.RowWords.{Goes, run_form, is_like, are_like, is_queue_like, is_annotated}
use Rattle.ft_typing.specs.RowTests.{Test, is_claimed, is_substitution, has_registers, has_queue, has_memory, is_array}
use Rattle.ft_typing.specs.RowTests.{premise_of, known, code_of, holds}
use Rattle.ft_typing.specs.Accepted.{Applies, last_row, next_row}
use Rattle.ft_typing.proofs.TypingRows.{row_is}

-- an object with other cells and other instructions
abbrev pub with_parts : Object → List Cell → List Instr → Object
with_parts o cs xs = record o { cells = cs; instrs = xs }

module _ (o : Object) (cs : List Cell) (xs : List Instr) (same : map basic_of cs ≡ map basic_of o.cells) where
  -- WORDS

  cell_at_same : (k : ℕ) → option_map basic_of (slice_get cs k) ≡ option_map basic_of (slice_get o.cells k)
  cell_at_same k = sym (slice_get-map basic_of cs k) ∙ ap (λ bs. slice_get bs k) same ∙ slice_get-map basic_of o.cells k

  by_test : (b : Bool) (x y : Option Cell) → option_map basic_of x ≡ option_map basic_of y →
      option_map basic_of (if b then x else None) ≡ option_map basic_of (if b then y else None)
  by_test true x y e = e
  by_test false x y e = refl

  cell_type_same : (a : ℕ) → cell_type (with_parts o cs xs) a ≡ cell_type o a
  unfolding cell_of
  cell_type_same a = by_test (nat_le (cell_address 0) a) _ _ (cell_at_same (a - cell_address 0))

  has_type_over_same : (w n : ℕ) (b : Base) → has_type_over (with_parts o cs xs) w n b ≡ has_type_over o w n b
  unfolding block_at
  has_type_over_same w zero Int = refl
  has_type_over_same w zero (Code t) = refl
  has_type_over_same w (suc n) b = ap (λ u. is_cell_type u (record { refs = n; base = b })) (cell_type_same w)

  pub has_type_same : (w : ℕ) (b : Basic) → has_type (with_parts o cs xs) w b ≡ has_type o w b
  unfolding has_type
  has_type_same w b = has_type_over_same w b.refs b.base

  pub has_over : (w n : ℕ) (b : Base) → HasTypeOver o w n b → HasTypeOver (with_parts o cs xs) w n b
  unfolding block_at
  has_over w zero Int h = h
  has_over w zero (Code t) h = h
  has_over w (suc n) b h = cell_type_same w ∙ h

  types_of_run_same : (first m : ℕ) → types_of_run (with_parts o cs xs) first m ≡ types_of_run o first m
  types_of_run_same first m = sym (range_map cs) ∙ ap (λ bs. take (first + m - first) (drop first bs)) same
      ∙ range_map o.cells
    where
      range_map : (ys : List Cell) → take (first + m - first) (drop first (map basic_of ys))
          ≡ map basic_of (take (first + m - first) (drop first ys))
      range_map ys = ap (take (first + m - first)) (drop-map basic_of first ys)
          ∙ take-map basic_of (first + m - first) (drop first ys)

  run_type_same : (first m : ℕ) → run_type (with_parts o cs xs) first m ≡ run_type o first m
  unfolding run_type
  run_type_same first m = ap (λ bs. only_referable (common_type bs)) (types_of_run_same first m)

  -- CONTEXTS

  registers_same : (rs : List RegType) (m : TypedRegisters) → registers_after (with_parts o cs xs) m rs
      ≡ registers_after o m rs
  unfolding registers_after integer_form_of
  registers_same [] m = refl
  registers_same (r ∷ rs) m = registers_same rs (finite.insert m r.reg.number (typed_row o r))

  pairs_same : (qs : List (ℕ × ℕ)) → map (queue_pair (with_parts o cs xs)) qs ≡ map (queue_pair o) qs
  unfolding integer_form_of
  pairs_same qs = refl

  memory_form_same : (n : ℕ) → memory_form_of (with_parts o cs xs) n ≡ memory_form_of o n
  unfolding memory_form_of
  memory_form_same n = refl

  pub start_same : (t : ℕ) → start_context (with_parts o cs xs) t ≡ start_context o t
  unfolding memory_form_of
  start_same t = λ i. record {
    ints = (start_context o t).ints;
    registers = registers_same (reg_rows o t) finite.empty i;
    d = (start_context o t).d;
    queue = pairs_same (queue_rows o t) i;
    memory = memory_form_same (memory_of o t) i;
  }

  -- SUBSTITUTIONS

  replacement_same : (u : Subst) → replacement (with_parts o cs xs) u ≡ replacement o u
  unfolding replacement integer_form_of memory_form_of
  replacement_same u = refl

  memory_after_same : (x : Replacement) (n : ℕ) → memory_form_after (with_parts o cs xs) x n ≡ memory_form_after o x n
  unfolding memory_form_after
  memory_after_same x n = refl

  like_same : (x : Replacement) (u : Option Typed) (r : RegType) → is_like (with_parts o cs xs) x u r ≡ is_like o x u r
  unfolding is_like integer_form_after
  like_same x None r = refl
  like_same x (Some t) r = refl

  are_like_same : (x : Replacement) (c : Context) (rs : List RegType) → are_like (with_parts o cs xs) x c rs
      ≡ are_like o x c rs
  are_like_same x c rs = λ i. list_all (λ (r : RegType). like_same x (typed c r.reg.number) r i) rs

  integer_after_same : (x : Replacement) (n : ℕ) → integer_form_after (with_parts o cs xs) x n
      ≡ integer_form_after o x n
  unfolding integer_form_after
  integer_after_same x n = refl

  queue_like_same : (x : Replacement) (q : List FormPair) (rs : List (ℕ × ℕ)) →
      is_queue_like (with_parts o cs xs) x q rs ≡ is_queue_like o x q rs
  unfolding is_queue_like integer_form_after
  queue_like_same x [] [] = refl
  queue_like_same x [] (r ∷ rs) = refl
  queue_like_same x (e ∷ q) [] = refl
  queue_like_same x (e ∷ q) (r ∷ rs) = ap (λ z. same_polynomial e.0 (integer_form_after o x r.0)
      && same_polynomial e.1 (integer_form_after o x r.1) && z) (queue_like_same x q rs)

  annotated_same : (ints : ℕ) (u : Subst) (t : ℕ) → is_annotated (with_parts o cs xs) ints u t ≡ is_annotated o ints u t
  unfolding is_annotated
  annotated_same ints u t = refl

  -- ROWS

  holds_same : (c : Context) (t : Test) → holds (with_parts o cs xs) c t ≡ holds o c t
  holds_same c (is_claimed w b) = has_type_same w b
  holds_same c (is_substitution r u) = annotated_same c.ints u (code_of c r)
  holds_same c (has_registers r u) =
      let rows = reg_rows o (code_of c r) in
      ap (λ x. are_like (with_parts o cs xs) x c rows) (replacement_same u) ∙ are_like_same (replacement o u) c rows
  holds_same c (has_queue r u) =
      let rows = queue_rows o (code_of c r) in
      ap (λ x. is_queue_like (with_parts o cs xs) x c.queue rows) (replacement_same u)
      ∙ queue_like_same (replacement o u) c.queue rows
  holds_same c (has_memory r u) =
      let memory = memory_of o (code_of c r) in
      ap (same_updates c.memory) (ap (λ x. memory_form_after (with_parts o cs xs) x memory) (replacement_same u)
      ∙ memory_after_same (replacement o u) memory)
  holds_same c (is_array first m) = ap is_some (run_type_same first m)
  holds_same c t = refl

  failing_same : (c : Context) (ts : List Test) → first_failing (with_parts o cs xs) c ts ≡ first_failing o c ts
  failing_same c [] = refl
  failing_same c (t ∷ ts) = λ j. if holds_same c t j then failing_same c ts j else Some (premise_of t)

  effect_same : (c : Context) (i : Instr) → effect (with_parts o cs xs) c i ≡ effect o c i
  effect_same c (Idx rd rs first m) = λ j.
      Goes (with_type rd.number (record {
        colour = (known c rs).colour;
        basic = ref (unwrap_or (run_type_same first m j) int);
        form = run_form first m (known c rs).form;
      }) c)
  effect_same c i = refl

  pub row_same : (c : Context) (i : Instr) → row (with_parts o cs xs) c i ≡ row o c i
  row_same c i = row_is (with_parts o cs xs) c i ∙ (λ j. refused_or (failing_same c (tests i) j) (effect_same c i j))
      ∙ sym (row_is o c i)

  pub applies_same : (c : Context) (is : List Instr) → Applies o c is → Applies (with_parts o cs xs) c is
  applies_same c _ (last_row e) = last_row (row_same _ _ ∙ e)
  applies_same c _ (next_row d e a) = next_row d (row_same _ _ ∙ e) (applies_same d _ a)
