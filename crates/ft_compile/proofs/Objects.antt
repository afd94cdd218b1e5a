-- The object of well-formed blocks carries them, and is spellable and accepted.
use Rattle.std.proofs.Common.{◌≡◌, ◌≢◌, ℕ, zero, suc, ◌+◌, ◌<◌, ◌≤◌, true, false, List, [], ◌∷◌, length, Some, refl}
use Rattle.std.proofs.Common.{sym, ap, ◌∙◌, subst, arith, slice_get, map}
use Rattle.std.specs.Prelude.{All, slice_range}
use Rattle.std.specs.List.{AllPairs, zip}
use Rattle.std.specs.Option.{option_map, unwrap_or}
use Rattle.std.proofs.lemmas.List.Elements.{All-nil}
use Rattle.std.proofs.lemmas.Option.{slice_get-map, slice_get_within}
use Rattle.ft_isa.specs.Words.{IsWord, code_address, cell_address}
use Rattle.ft_isa.specs.declared.instr.Instr.{Instr}
use Rattle.ft_static.specs.declared.node.Shape.TheVariants as shape
use Rattle.ft_static.specs.NodeRules.{AreNodes}
use Rattle.ft_types.specs.declared.object.Object.{Object}
use Rattle.ft_types.specs.declared.object.Cell.{Cell}
use Rattle.ft_types.specs.declared.object.Block.{Block}
use Rattle.ft_typing.specs.Accepted.{Applies, IsEntryType}
use Rattle.ft_typing.specs.Context.{start_context}
use Rattle.ft_types.specs.Objects.{name_of, basic_of, start_of as start_of_block, block_type, block_instrs}
use Rattle.ft_types.specs.Spellable.{IsSpellable, Cover, substs_of, IsNodeIn, IsInstr}
use Rattle.ft_isa.specs.BasicTypes.{code, int, ref}
use Rattle.ft_typing.specs.TypedWord.{cell_type, run_type, block_at, HasType, has_type}
use Rattle.ft_typing.proofs.TypedWords.{has_type_decides}
use Rattle.ft_typing.proofs.Runs.{cell_at_address, run_type_is}
use Rattle.ft_scope.specs.declared.slot.Slot.TheVariants.{Run}
use Rattle.ft_scope.specs.Size.{RunFits}
use Rattle.ft_lower.specs.Flow.{Blocks}
use Rattle.ft_lower.specs.Size.{blocks_size}
use Rattle.ft_lower.specs.Well.{IsTarget, IsWell, known_first}
use Rattle.ft_dup.specs.Doubles.{words_of}
use Rattle.ft_dup.proofs.WellFormedBlocks.{starts_length}
use Rattle.ft_dup.specs.Images.{starts, start_of, doubled}
use Rattle.ft_compile.specs.Cells.{AreCells}
use Rattle.ft_compile.specs.Emitted.{placed, at_first, noted, emitted}
use Rattle.ft_compile.specs.Noted.{Noted, begun, scope_of_block, blocks_noted, node}
use Rattle.ft_compile.specs.Laws.{IsEmission, EmittedObjectsAreAccepted}
use Rattle.ft_compile.proofs.Lists.{Starts, starts_refl, starts_trans, get_starts}
use Rattle.ft_compile.proofs.Walked.{block_noted, block_grows, blocks_grow, RowsAreFine, well_rows, chain_covers}
use Rattle.ft_compile.proofs.Walked.{IsSound, begun_lawful, scope_within, noted_sound, row_sound, first_fine}
use Rattle.ft_compile.proofs.Coded.{row_coded, rows_coded, joined, added_blocks, placed_blocks, joined_length, offsets}
use Rattle.ft_compile.proofs.Coded.{offsets_are_starts, cut_out}
use Rattle.ft_compile.proofs.Counted.{nodes_blocks, rows_blocks, HaveSome, fine_have_some, blocks_few, start_within}
use Rattle.ft_compile.proofs.Counted.{places_of_blocks}
use Rattle.ft_compile.proofs.Spelled.{instrs_blocks, substs_blocks, types_lawful, reg_rows_few, queue_rows_few}
use Rattle.ft_compile.proofs.Spelled.{blocks_in_order, blocks_begin, blocks_typed, blocks_many}
use Rattle.ft_compile.proofs.Leading.{row_applies}
use Rattle.ft_compile.proofs.Beginnings.{type_of_block, begins_good}
use Rattle.std.proofs.lemmas.List.FromFn.{length-map-range_with_len}
use Rattle.ft_compile.specs.Emitted.{variable_node}
use Rattle.ft_compile.proofs.BlockTypes.{HasTypes}
use Rattle.ft_compile.proofs.ObjectTables.{names_of_cells, words_of_cells, many_cells, int_cells, lawful_cells}
use Rattle.ft_compile.proofs.ObjectTables.{cell_is_int, cell_there, bare_placed, code_type_is, first_type, first_there}
use Rattle.ft_compile.proofs.ObjectTables.{target_found}

module _ (names : List (List ℕ)) (inits : List ℕ) (vars : ℕ) (bs : Blocks) (C : AreCells names inits) (F : vars ≤ 32)
    (W : IsWell vars (length inits) bs) where
  -- the object of these blocks
  abbrev o : Object
  o = emitted names inits vars bs

  -- where its blocks begin
  abbrev start : ℕ → ℕ
  start = start_of bs

  -- the instructions of its blocks
  abbrev rows : List (List Instr)
  rows = rows_coded vars start 0 (at_first vars) bs

  -- all its blocks are well formed
  fine : RowsAreFine vars (length inits) (length bs) 0 bs
  fine = well_rows vars (length inits) bs W

  -- each block has at least one instruction
  some : HaveSome bs
  some = fine_have_some vars (length inits) (length bs) 0 bs fine

  -- the notes of the blocks are sound
  sound : IsSound o.nodes o.substs (noted vars bs)
  sound = noted_sound vars (length inits) bs C.few F W

  -- the instructions are the rows, concatenated
  instrs_are : o.instrs ≡ joined vars start rows
  instrs_are = ap (λ us. placed us (doubled bs)) (added_blocks vars start 0 (at_first vars) bs)
      ∙ placed_blocks vars start 0 (at_first vars) bs

  -- so there are as many as the blocks' sizes say
  instrs_many : length o.instrs ≡ blocks_size bs
  instrs_many = ap length instrs_are ∙ joined_length vars start 0 (at_first vars) bs

  -- the nodes obey the rules
  nodes_lawful : AreNodes o.nodes
  nodes_lawful = record {
    few = let n = nodes_blocks vars 0 (at_first vars) bs in let m : length (at_first vars).nodes
        ≡ suc vars = ap suc (length-map-range_with_len (variable_node vars) 0 vars) in let s = W.short in let f = F in
        omega arith;
    each = sound.fine;
  }

  -- the first nodes are those of the memory and the variables
  first_nodes : Starts (at_first vars).nodes o.nodes
  first_nodes = (blocks_grow vars 0 (at_first vars) bs).nodes

  -- the object has the two code types
  types : HasTypes o vars
  types = record {
    few = F;
    entry_ints = refl;
    entry_rows = refl;
    entry_queue = refl;
    entry_memory = refl;
    ints = refl;
    rows = refl;
    queue = refl;
    memory = refl;
    nodes = nodes_lawful;
    first_nodes = first_nodes;
  }

  -- a block's code address is a word
  address_words : (b : ℕ) → IsWord (code_address (start b))
  address_words b = let s = start_within bs b in let t = W.short in omega arith

  -- the instructions carry the substitutions of the notes
  substs_are : substs_of o.instrs ≡ (noted vars bs).substs
  substs_are = ap substs_of instrs_are ∙ substs_blocks vars start 0 (at_first vars) bs
      ∙ sym (added_blocks vars start 0 (at_first vars) bs)

  -- there are as many blocks in the object as in the flow
  pub block_count : length o.blocks ≡ length bs
  block_count = blocks_many (starts bs) ∙ starts_length 0 bs

  -- the cells have these names
  names_are : map name_of o.cells ≡ names
  names_are = names_of_cells names inits C.as_many

  -- the cells have these initial words
  words_are : words_of o ≡ inits
  words_are = words_of_cells names inits C.as_many

  -- there are as many cells as initial words
  cell_count : length o.cells ≡ length inits
  cell_count = many_cells names inits C.as_many

  -- all tables obey the rules
  spelled : IsSpellable o
  spelled = record {
    few_cells = let c = cell_count in let f = C.few in omega arith;
    cells = lawful_cells names inits C.lawful C.words;
    names_differ = subst (AllPairs (λ x y. x ≢ y)) (sym names_are) C.differ;
    nodes = nodes_lawful;
    some_type = omega arith;
    few_types = omega arith;
    few_reg_rows = reg_rows_few vars F;
    few_queue_rows = queue_rows_few vars;
    types = types_lawful o.nodes vars F first_nodes;
    few_blocks = let c = block_count in let f = blocks_few bs some in let s = W.short in omega arith;
    first_block = blocks_begin bs W.some;
    blocks = blocks_in_order (length o.instrs) bs (let e = instrs_many in omega arith) some;
    block_types = blocks_typed (starts bs);
    some_instr = let e = instrs_many in let f = first_there bs some W.some in omega arith;
    few_instrs = let e = instrs_many in let s = W.short in omega arith;
    instrs = subst (λ n. All (IsInstr 2 n) o.instrs) (sym cell_count)
        (subst (All (IsInstr 2 (length inits))) (sym instrs_are)
        (instrs_blocks vars start (length inits) (length bs) C.few address_words 0 (at_first vars) bs fine));
    few_substs = let r = rows_blocks vars 0 (at_first vars) bs F in let s = W.short in omega arith;
    covered = subst (Cover o.nodes (length o.substs) 0) (sym substs_are)
        (chain_covers o.nodes o.substs 0 (noted vars bs).substs sound.covered.chain);
    substs = sound.covered.rows;
    entry = let c = block_count in let s = W.some in omega arith;
  }

  -- ACCEPTANCE

  -- the cell at a cell's address has type `int`
  type_there : (c : ℕ) → c < length inits → cell_type o (cell_address c) ≡ Some int
  type_there c lt = ap (option_map basic_of) (cell_at_address o c) ∙ cell_there names inits c C.as_many lt

  -- a cell's address has type `ref:int`
  refs : (c : ℕ) → c < length inits → has_type o (cell_address c) (ref int) ≡ true
  refs c lt = (has_type_decides o (cell_address c) (ref int)).1 (type_there c lt)

  -- the cells of an array have one type
  arrays : (begin many : ℕ) → RunFits (length inits) (Run begin many) → run_type o begin many ≡ Some int
  arrays begin many fits =
      let within : begin + many ≤ length o.cells = omega (arith, cell_count, fits.2) in
      (run_type_is o begin many int fits.0 within).1
      (record { each = λ k lt. type_there (begin + k) (omega (arith, lt, fits.2)); referable = omega arith })

  -- the code address of a target has type `code:1`
  targets : (b : ℕ) → IsTarget (length bs) b → has_type o (code_address (start b)) (code 1) ≡ true
  unfolding block_at
  targets b t = (has_type_decides o (code_address (start b)) (code 1)).1 (target_found bs b some t)

  -- the typing rules of each row's instructions apply
  rows_apply : (b : ℕ) (w : Noted) (xs : Blocks) → RowsAreFine vars (length inits) (length bs) b xs →
      Starts (at_first vars).nodes w.nodes → Starts (blocks_noted vars b w xs).nodes o.nodes →
      Starts (blocks_noted vars b w xs).rows o.substs → IsSound o.nodes o.substs w → (j : ℕ) (r : List Instr) →
      slice_get (rows_coded vars start b w xs) j ≡ Some r →
      Applies o (start_context o (type_of_block o vars types (b + j))) r
  rows_apply b w [] f s sn sr h j r e = cc
  rows_apply b w (x ∷ xs) f s sn sr h zero r e =
      let v = block_noted vars b w x in
      let g = blocks_grow vars (suc b) v xs in
      let hn : Starts v.nodes o.nodes = starts_trans v.nodes _ o.nodes g.nodes sn in
      let hr : Starts v.rows o.substs = starts_trans v.rows _ o.substs g.rows sr in
      let wg = block_grows vars b w x in
      let q : row_coded vars start (scope_of_block vars b) (begun w) x ≡ r = cc in
      let z : b ≡ b + 0 = omega arith in
      subst (λ n. Applies o (start_context o (type_of_block o vars types n)) r) z
      (subst (Applies o (start_context o (type_of_block o vars types b))) q
      (row_applies o vars types (length inits) (length bs) start C.few refs arrays targets (scope_of_block vars b)
      (known_first vars b) (begun w) (start_context o (type_of_block o vars types b)) x
      (scope_within vars b F) f.0.ended f.0.well f.0.pairs hn hr
      (begun_lawful o.nodes vars b w F s (starts_trans w.nodes v.nodes o.nodes wg.nodes hn) h.fine)
      (begins_good o vars types b)))
  rows_apply b w (x ∷ xs) f s sn sr h (suc j) r e =
      let v = block_noted vars b w x in
      let g = blocks_grow vars (suc b) v xs in
      let hn : Starts v.nodes o.nodes = starts_trans v.nodes _ o.nodes g.nodes sn in
      let hr : Starts v.rows o.substs = starts_trans v.rows _ o.substs g.rows sr in
      let wg = block_grows vars b w x in
      let z : suc b + j ≡ b + suc j = omega arith in
      subst (λ n. Applies o (start_context o (type_of_block o vars types n)) r) z
      (rows_apply (suc b) v xs f.1 (starts_trans (at_first vars).nodes w.nodes v.nodes s wg.nodes) sn sr
      (row_sound o.nodes o.substs vars (scope_of_block vars b) (length inits) (length bs) (known_first vars b) (begun w)
      x F (scope_within vars b F) C.few f.0.well f.0.pairs hn hr
      (begun_lawful o.nodes vars b w F s (starts_trans w.nodes v.nodes o.nodes wg.nodes hn) h.fine)
      (record { rows = h.covered.rows; chain = h.covered.chain }))
      j r e)

  -- each block has its row
  pub row_of_block : (b : ℕ) (w : Noted) (xs : Blocks) (j : ℕ) → j < length xs → (r : List Instr)
      × (slice_get (rows_coded vars start b w xs) j ≡ Some r)
  row_of_block b w [] j lt = absurd (omega (arith, lt))
  row_of_block b w (x ∷ xs) zero lt = (row_coded vars start (scope_of_block vars b) (begun w) x, refl)
  row_of_block b w (x ∷ xs) (suc j) lt = row_of_block (suc b) (block_noted vars b w x) xs j (omega (arith, lt))

  -- a block begins where its row does
  place_is : (b : ℕ) → option_map start_of_block (slice_get o.blocks b) ≡ slice_get (offsets vars start 0 rows) b
  place_is b = sym (slice_get-map start_of_block o.blocks b)
      ∙ ap (λ l. slice_get l b) (places_of_blocks (starts bs)
      ∙ sym (offsets_are_starts vars start 0 0 (at_first vars) bs))

  -- the instructions of a block are its row
  pub block_is_row : (b : ℕ) (r : List Instr) → slice_get rows b ≡ Some r → block_instrs o b ≡ r
  block_is_row b r e =
      ap (λ p. slice_range o.instrs (unwrap_or p 0) (unwrap_or (option_map start_of_block (slice_get o.blocks (suc b)))
      (length o.instrs))) (place_is b)
      ∙ ap (λ p. slice_range o.instrs (unwrap_or (slice_get (offsets vars start 0 rows) b) 0)
      (unwrap_or p (length o.instrs))) (place_is (suc b))
      ∙ ap (λ l. slice_range l (unwrap_or (slice_get (offsets vars start 0 rows) b) 0)
      (unwrap_or (slice_get (offsets vars start 0 rows) (suc b)) (length l))) instrs_are
      ∙ cut_out vars start rows b r e

  -- so the typing rules of each block's instructions apply
  blocks_apply : (b : ℕ) (x : Block) → slice_get o.blocks b ≡ Some x →
      Applies o (start_context o x.code_type) (block_instrs o b)
  blocks_apply b x e =
      let lt : b < length bs = let c = block_count in omega (arith, slice_get_within o.blocks b x e) in
      let R = row_of_block 0 (at_first vars) bs b lt in
      let z : 0 + b ≡ b = omega arith in
      let whole = noted vars bs in
      let h = rows_apply 0 (at_first vars) bs fine (starts_refl (at_first vars).nodes) (starts_refl whole.nodes)
      (starts_refl whole.rows)
      (record {
        fine = first_fine whole.nodes vars F;
        covered = record { rows = All-nil (IsNodeIn whole.nodes 128 false); chain = refl };
      }) b R.0 R.1 in
      subst (λ t. Applies o (start_context o t) (block_instrs o b)) (sym (code_type_is o vars types (starts bs) b x e))
      (subst (λ l. Applies o (start_context o (type_of_block o vars types b)) l) (sym (block_is_row b R.0 R.1))
      (subst (λ n. Applies o (start_context o (type_of_block o vars types n)) R.0) z h))

  -- the entry's code type is one with which a run may begin
  entry_lawful : IsEntryType o (block_type o o.entry)
  entry_lawful = subst (IsEntryType o) (sym (first_type (starts bs))) (record {
    ints = refl;
    regs = refl;
    queue = refl;
    memory = record {
      node = node 0 shape.Memory;
      found =
          get_starts (at_first vars).nodes o.nodes 0 (node 0 shape.Memory) first_nodes refl;
      shape = refl;
    };
  })

  -- each initial word has the type of its cell
  cells_typed : (k : ℕ) (x : Cell) → slice_get o.cells k ≡ Some x → HasType o x.init x.basic
  cells_typed k x e = subst (HasType o x.init) (sym (cell_is_int (zip names inits) k x e)) tt

  -- so the object satisfies `IsEmission`
  emission_of : IsEmission names inits bs o
  emission_of = record {
    names_are = names_are;
    words_are = words_are;
    ints = int_cells (zip names inits);
    spellable = spelled;
    accepted = record { entry = entry_lawful; cells = cells_typed; blocks = blocks_apply };
    carries = record {
      instrs = bare_placed (noted vars bs).substs (doubled bs);
      blocks = places_of_blocks (starts bs);
      entry = refl;
      many = cell_count;
      ints = int_cells (zip names inits);
      words = subst (All IsWord) (sym words_are) C.words;
    };
    instrs = instrs_many;
  }

-- the object of well-formed blocks carries them, and is spellable and accepted
pub emission : EmittedObjectsAreAccepted
emission = emission_of
