-- The walk of a block and the search for the first refusal, one iteration at a time.
use Rattle.std.proofs.Common.{◌≡◌, ◌≢◌, ◌+◌, ◌<◌, ◌≤◌, ℕ, zero, suc, Bool, true, false, ◌==◌, eqb-true, eq-eqb, List}
use Rattle.std.proofs.Common.{[], ◌∷◌, length, drop, slice_get, slice_range, Option, Some, None, Result, Ok, Err, refl}
use Rattle.std.proofs.Common.{sym, ap, ◌∙◌, subst, arith}
use Rattle.std.specs.Option.{option_or, option_map, unwrap_or}
use Rattle.ft_isa.specs.declared.instr.Instr.{Instr}
use Rattle.ft_types.specs.declared.object.Object.{Object}
use Rattle.ft_types.specs.declared.object.Block.{Block}
use Rattle.ft_typing.specs.Accepted.{Refusal, after_row, walk, first_refusal, has_none, cell_refusal, block_refusal}
use Rattle.ft_typing.specs.Accepted.{is_entry_type, refusal}
use Rattle.ft_types.specs.declared.object.Cell.{Cell}
use Rattle.ft_types.specs.declared.object.CellHead.{CellHead}
use Rattle.ft_typing.specs.TypedWord.{has_type}
use Rattle.ft_typing.specs.Accepted as refusals
use Rattle.ft_typing.specs.Context.{Context, start_context}
use Rattle.ft_checker.specs.declared.error.CheckError.{CheckError}
use Rattle.ft_checker.specs.declared.error.CheckError.TheVariants.{EntryType, CellType, Refused, NoMemory}
use Rattle.ft_static.specs.Form.{Form as Normal, updates}
use Rattle.ft_norm.specs.Held.{Keeps}
use Rattle.ft_contexts.proofs.Kept.{context_stays, forms_kept}
use Rattle.ft_checker.specs.declared.blocks.Start.{Start}
use Rattle.ft_checker.specs.Judges.{IsRefusalOf, IsStart, Judges}
use Rattle.std.specs.Prelude.{IfSome}
use Rattle.std.specs.Result.{IsErrAnd}
use Rattle.std.proofs.lemmas.List.{drop_all}
use Rattle.ft_isa.proofs.Lists.{drop_next, range_past}
use Rattle.ft_types.specs.Objects.{cell_head_of, start_of, code_type_of, block_type, block_end, block_start}
use Rattle.ft_types.specs.Objects.{block_instrs}
use Rattle.ft_typing.specs.Premise.{Premise}
use Rattle.ft_typing.specs.declared.why.Why.TheVariants.{BlockEnd}
use Rattle.ft_types.specs.Spellable.{AreBlocks, IsSpellable}
use Rattle.ft_typing.specs.TypingRow.{row}
use Rattle.ft_typing.specs.RowWords.{Outcome, Goes, Ends, Fails}
use Rattle.ft_contexts.proofs.Lists.{range_there}

-- after a row that continues, the walk refuses the instruction if it is the last one, and otherwise goes on
pub on_last : (x : Outcome) (d : Context) (k : ℕ) (others : List Instr) (next : Context → Option (ℕ × Premise)) → x
    ≡ Goes d → has_none others ≡ true → after_row x k others next ≡ Some (k, BlockEnd)
unfolding after_row
on_last x d k [] next e h = rw e refl
on_last x d k (i ∷ is) next e h = cc

pub on_more : (x : Outcome) (d : Context) (k : ℕ) (others : List Instr) (next : Context → Option (ℕ × Premise)) → x
    ≡ Goes d → has_none others ≡ false → after_row x k others next ≡ next d
unfolding after_row
on_more x d k [] next e h = cc
on_more x d k (i ∷ is) next e h = rw e refl

-- after a row that ends the block, the walk refuses the instruction unless it is the last one
pub end_last : (x : Outcome) (k : ℕ) (others : List Instr) (next : Context → Option (ℕ × Premise)) → x ≡ Ends →
    has_none others ≡ true → after_row x k others next ≡ None
unfolding after_row
end_last x k [] next e h = rw e refl
end_last x k (i ∷ is) next e h = cc

pub end_more : (x : Outcome) (k : ℕ) (others : List Instr) (next : Context → Option (ℕ × Premise)) → x ≡ Ends →
    has_none others ≡ false → after_row x k others next ≡ Some (k, BlockEnd)
unfolding after_row
end_more x k [] next e h = cc
end_more x k (i ∷ is) next e h = rw e refl

-- after a row that fails, the walk refuses the instruction, with the failing premise
pub row_fails : (x : Outcome) (p : Premise) (k : ℕ) (others : List Instr) (next : Context → Option (ℕ × Premise)) → x
    ≡ Fails p → after_row x k others next ≡ Some (k, p)
unfolding after_row
row_fails x p k others next e = rw e refl

-- one iteration of the walk applies the row of the first instruction
pub walk_turn : (o : Object) (c : Context) (k : ℕ) (is : List Instr) (i : Instr) (others : List Instr) → is
    ≡ i ∷ others → walk o c k is ≡ after_row (row o c i) k others (λ d. walk o d (suc k) others)
unfolding walk
walk_turn o c k is i others e = rw e refl

-- with no instruction left, the walk refuses: the block has not ended
pub walk_none : (o : Object) (c : Context) (k : ℕ) (is : List Instr) → is ≡ [] → walk o c k is ≡ Some (k, BlockEnd)
unfolding walk
walk_none o c k is e = rw e refl

-- one iteration of the search for the first refusal
pub first_turn : {X : Type 0} (refuse : ℕ → X → Option Refusal) (k : ℕ) (xs : List X) (x : X) → slice_get xs k
    ≡ Some x → first_refusal refuse k (drop k xs) ≡ option_or (refuse k x)
    (first_refusal refuse (k + 1) (drop (k + 1) xs))
unfolding first_refusal
first_turn refuse k xs x e = let n : k + 1 ≡ suc k = omega arith in rw (drop_next xs k x e, n) refl

-- the search ends without a refusal after the last element
pub first_end : {X : Type 0} (refuse : ℕ → X → Option Refusal) (k : ℕ) (xs : List X) → length xs ≤ k →
    first_refusal refuse k (drop k xs) ≡ None
unfolding first_refusal
first_end refuse k xs l = rw (drop_all k xs l) refl

-- CELLS

-- a cell whose initial word has its type passes, and one whose word does not is refused
pub cell_passes : (o : Object) (k : ℕ) (x : Cell) (h : CellHead) → cell_head_of x ≡ h → has_type o h.init h.basic
    ≡ true → cell_refusal o k x ≡ None
cell_passes o k x h same t =
    let u : has_type o x.init x.basic ≡ true = subst (λ (z : CellHead). has_type o z.init z.basic
    ≡ true) (sym same) t in
    rw u refl

pub cell_fails : (o : Object) (k : ℕ) (x : Cell) (h : CellHead) → cell_head_of x ≡ h → has_type o h.init h.basic
    ≡ false → cell_refusal o k x ≡ Some (refusals.CellType k)
cell_fails o k x h same t =
    let u : has_type o x.init x.basic ≡ false = subst (λ (z : CellHead). has_type o z.init z.basic
    ≡ false) (sym same) t in
    rw u refl

-- BLOCKS

-- there is a block for each number below the number of blocks
pub block_there : (bs : List Block) (b : ℕ) → b < length bs → (x : Block) × (slice_get bs b ≡ Some x)
block_there [] b h = absurd (omega arith)
block_there (x ∷ bs) zero h = (x, refl)
block_there (x ∷ bs) (suc b) h = block_there bs b (omega arith)

-- a block ends after it begins, within the instructions
ends_after : (end least : ℕ) (bs : List Block) (n : ℕ) (x : Block) → AreBlocks end least bs → slice_get bs n ≡ Some x →
    (x.start < unwrap_or (option_map start_of (slice_get bs (suc n))) end)
    × (unwrap_or (option_map start_of (slice_get bs (suc n))) end ≤ end)
ends_after end least [] n x h e = cc
ends_after end least (b ∷ []) zero x h e = let same : b ≡ x = cc in let l = h.1 in
    (subst (λ (z : Block). z.start < end) same l, omega arith)
ends_after end least (b ∷ c ∷ bs) zero x h e = let same : b ≡ x = cc in let l = h.2.0 in let m = h.2.1 in
    (subst (λ (z : Block). z.start < c.start) same (omega arith), omega arith)
ends_after end least (b ∷ bs) (suc n) x h e = ends_after end (suc b.start) bs n x h.2 e

pub block_ends : (o : Object) (b : ℕ) (x : Block) → IsSpellable o → slice_get o.blocks b ≡ Some x →
    (x.start < block_end o b) × (block_end o b ≤ length o.instrs)
block_ends o b x h e = ends_after (length o.instrs) 0 o.blocks b x h.blocks e

-- there is an instruction for each number below the number of instructions
pub instr_there : (is : List Instr) (k : ℕ) → k < length is → (x : Instr) × (slice_get is k ≡ Some x)
instr_there [] k h = absurd (omega arith)
instr_there (x ∷ is) zero h = (x, refl)
instr_there (x ∷ is) (suc k) h = instr_there is k (omega arith)

-- no instruction is left exactly when `i` has reached `past`
pub none_left : (xs : List Instr) (i past : ℕ) → i ≤ past → past ≤ length xs → has_none (slice_range xs i past)
    ≡ (i == past)
none_left xs i past l m = by_test (i == past) refl
  where
    by_test : (b : Bool) → (i == past) ≡ b → has_none (slice_range xs i past) ≡ b
    by_test true e = let s = eqb-true i past e in rw (range_past xs i past (omega arith)) refl
    by_test false e =
        let ne : i ≢ past = (λ s. let t : (i == past) ≡ true = eq-eqb i past s in cc) in
        let x = instr_there xs i (omega arith) in
        rw (range_there xs i past x.0 (omega arith) x.1) refl

-- ANSWERS

-- if the first of two possible refusals is there, it is the one that counts
pub or_refused : (y z : Option Refusal) (e : CheckError) → IsRefusalOf y e → IsRefusalOf (option_or y z) e
or_refused y z EntryType h = rw h refl
or_refused y z (CellType k) h = rw h refl
or_refused y z (Refused b i why) h = rw h refl
or_refused y z NoMemory h = tt

-- returning the right refusal is a correct result
pub judges_exit : {A : Type 0} (r : Result A CheckError) (e : CheckError) (x y : Option Refusal) →
    IsErrAnd r (λ f. f ≡ e) → x ≡ y → IsRefusalOf y e → Judges x r
judges_exit (Ok a) e x y h s k = absurd h
judges_exit (Err f) e x y h s k = subst (λ (z : CheckError).
    IsRefusalOf x z) (sym h) (subst (λ (z : Option Refusal). IsRefusalOf z e) (sym s) k)

-- so is returning because memory ran out
pub judges_stop : {A : Type 0} (r : Result A CheckError) (x : Option Refusal) → IsErrAnd r (λ f. f ≡ NoMemory) →
    Judges x r
judges_stop (Ok a) x h = absurd h
judges_stop (Err f) x h = subst (λ (z : CheckError). IsRefusalOf x z) (sym h) tt

-- THE WALK OF A BLOCK

-- the walk that the code begins is the defined walk of the block
pub walk_begins : (o : Object) (b : ℕ) (y : Block) (past k : ℕ) (c : Context) → slice_get o.blocks b ≡ Some y → past
    ≡ block_end o b → c ≡ start_context o y.code_type → k ≡ 0 → walk o c k (slice_range o.instrs y.start past)
    ≡ walk o (start_context o y.code_type) 0 (block_instrs o b)
walk_begins o b y past k c f p e z =
    let s : block_start o b ≡ y.start = ap (λ (x : Option Block). unwrap_or (option_map start_of x) 0) f in
    ap (λ (d : Context). walk o d k (slice_range o.instrs y.start past)) e
    ∙ ap (λ (n : ℕ). walk o (start_context o y.code_type) n (slice_range o.instrs y.start past)) z
    ∙ ap (λ (n : ℕ). walk o (start_context o y.code_type) 0 (slice_range o.instrs y.start n)) p
    ∙ ap (λ (n : ℕ). walk o (start_context o y.code_type) 0 (slice_range o.instrs n (block_end o b))) (sym s)

-- the walk at an instruction applies its row, then goes on with the instructions after it
pub walk_there : (o : Object) (c : Context) (k : ℕ) (xs : List Instr) (i past : ℕ) (x : Instr) → i < past →
    slice_get xs i ≡ Some x → walk o c k (slice_range xs i past)
    ≡ after_row (row o c x) k (slice_range xs (i + 1) past) (λ d. walk o d (suc k) (slice_range xs (i + 1) past))
walk_there o c k xs i past x l e = walk_turn o c k (slice_range xs i past) x (slice_range xs (i + 1) past)
    (range_there xs i past x l e)

-- past the last instruction, the walk refuses: the block has not ended
pub walk_past : (o : Object) (c : Context) (k : ℕ) (xs : List Instr) (i past : ℕ) → past ≤ i →
    walk o c k (slice_range xs i past) ≡ Some (k, BlockEnd)
walk_past o c k xs i past l = walk_none o c k (slice_range xs i past) (range_past xs i past l)

-- the refusal of a block, in terms of its walk
pub block_walk : (o : Object) (b : ℕ) (x y : Block) → slice_get o.blocks b ≡ Some x → slice_get o.blocks b ≡ Some y →
    block_refusal o b x ≡ option_map (λ r. refusals.Refused b r.0 r.1)
    (walk o (start_context o y.code_type) 0 (block_instrs o b))
block_walk o b x y e f =
    let same : x ≡ y = cc in
    ap (λ (z : Block). option_map (λ r. refusals.Refused b r.0 r.1)
    (walk o (start_context o z.code_type) 0 (block_instrs o b))) same

-- THE WHOLE

pub refusal_first : (o : Object) (t : ℕ) → block_type o o.entry ≡ t → is_entry_type o t ≡ false → refusal o
    ≡ Some refusals.EntryType
refusal_first o t e h = rw (e, h) refl

pub refusal_rest : (o : Object) (t : ℕ) → block_type o o.entry ≡ t → is_entry_type o t ≡ true → refusal o
    ≡ option_or (first_refusal (cell_refusal o) 0 o.cells) (first_refusal (block_refusal o) 0 o.blocks)
refusal_rest o t e h = rw (e, h) refl

-- `block_type` is the code type of an existing block
pub type_found : (o : Object) (b : ℕ) (x : Block) → slice_get o.blocks b ≡ Some x → block_type o b ≡ x.code_type
type_found o b x f = ap (λ (y : Option Block). unwrap_or (option_map code_type_of y) 0) f

-- `IsStart` still holds after the list of forms has grown
pub start_kept : (o : Object) (fs gs : List Normal) (s : Start) → Keeps fs gs → IsStart o fs s → IsStart o gs s
start_kept o fs gs s k h =
    let e = context_stays fs gs s.context k h.held in
    let m = ap (λ (x : Context). updates x.memory) e in
    let c = h.count in
    record {
      context = e ∙ h.context;
      held = forms_kept fs gs s.context k h.held;
      types = h.types;
      pending = h.pending;
      count = omega (arith, m, c);
    }

-- the same for the last start, if there is one
pub last_kept : (o : Object) (fs gs : List Normal) (x : Option Start) → Keeps fs gs → IfSome x (IsStart o fs) →
    IfSome x (IsStart o gs)
last_kept o fs gs None k h = tt
last_kept o fs gs (Some s) k h = start_kept o fs gs s k h
