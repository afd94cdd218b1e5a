-- The instructions, substitutions and code types of an emitted object obey the rules of their tables.
use Rattle.std.proofs.Common.{◌≡◌, ℕ, zero, suc, ◌+◌, ◌<◌, ◌≤◌, true, false, List, [], ◌∷◌, ◌++◌, length, refl, sym, ap}
use Rattle.std.proofs.Common.{◌∙◌, subst, arith, map, append_assoc, length-append}
use Rattle.std.specs.Prelude.{All}
use Rattle.std.specs.List.{range_with_len, AllByRecursion}
use Rattle.std.proofs.lemmas.List.Elements.{All-append, All-nil, All-cons, All-from_recursion, All-map}
use Rattle.std.proofs.lemmas.List.FromFn.{length-range_with_len, get_or-range_with_len, length-map-range_with_len}
use Rattle.ft_isa.specs.Words.{IsWord, code_address}
use Rattle.ft_isa.specs.declared.instr.Subst.{Subst}
use Rattle.ft_isa.specs.declared.instr.Instr.{Instr}
use Rattle.ft_static.specs.declared.node.Node.{Node}
use Rattle.ft_static.specs.declared.node.Shape.TheVariants as shape
use Rattle.ft_types.specs.Spellable.{IsBasic, IsNodeIn, IsRegRow, AreRising, IsQueueRow, IsCodeType, HasCodeType}
use Rattle.ft_types.specs.Spellable.{AreBlocks, BeginAtZero, IsRun, IsInstr, substs_of, reg_row_count, queue_row_count}
use Rattle.ft_isa.specs.BasicTypes.{code, int, ref}
use Rattle.ft_scope.specs.declared.slot.Slot.TheVariants.{Run}
use Rattle.ft_scope.specs.Size.{RunFits}
use Rattle.ft_lower.specs.declared.step3.Step3.{Step3}
use Rattle.ft_lower.specs.declared.step3.Step3.TheVariants.{Put, Copy, Op, Load, Store, LoadAt, StoreAt, Exit, Go, Stop}
use Rattle.ft_lower.specs.Flow.{Blocks}
use Rattle.ft_lower.specs.Size.{row_size, blocks_size}
use Rattle.ft_lower.specs.Well.{Known, known_after, StepFits, RowIsWell}
use Rattle.ft_dup.specs.Images.{green, blue, starts_from}
use Rattle.ft_dup.proofs.Pairs.{blue_number}
use Rattle.ft_compile.specs.Emitted.{variable_node}
use Rattle.ft_compile.specs.Noted.{Noted, node, jump_subst, step_noted, begun, scope_of_block}
use Rattle.ft_compile.specs.Emitted.{at_first, green_row, blue_row, entry_type, variables_type, block_from, blocks_at}
use Rattle.ft_compile.proofs.Lists.{Starts, starts_length, get_starts}
use Rattle.ft_compile.proofs.Named.{address_is_word}
use Rattle.ft_compile.proofs.Walked.{block_noted, variable_there, RowsAreFine}
use Rattle.ft_compile.proofs.Coded.{coded_step, step_added, row_coded, row_added, rows_coded, blocks_added, joined}
use Rattle.ft_compile.proofs.Counted.{HaveSome}
use Rattle.ft_compile.proofs.Forms.{green_number}

-- INSTRUCTIONS

-- the type of integers is valid
int_is_basic : IsBasic 2 int
int_is_basic = record { refs = omega arith; base = tt }

-- the type of cell addresses is valid
ref_int_is_basic : IsBasic 2 (ref int)
ref_int_is_basic = record { refs = omega arith; base = tt }

-- the type of code addresses of blocks is valid
code_one_is_basic : IsBasic 2 (code 1)
code_one_is_basic = record { refs = omega arith; base = omega arith }

-- the cells of an array exist
run_there : (cells begin many : ℕ) → RunFits cells (Run begin many) → IsRun cells begin many
run_there cells begin many fits = record {
  begins = omega (arith, fits.0, fits.2);
  length = (fits.0, fits.1);
  ends = fits.2;
}

module _ (vars : ℕ) (start : ℕ → ℕ) (cells blocks : ℕ) (small : cells ≤ 1024) (words : (b : ℕ) →
    IsWord (code_address (start b))) where
  -- the instructions of a step obey the rules
  instrs_step : (u : Subst) (i : Step3) → StepFits cells blocks i →
      AllByRecursion (IsInstr 2 cells) (coded_step start u i)
  instrs_step u (Put p v) fits = ((fits, int_is_basic), ((fits, int_is_basic), tt))
  instrs_step u (Copy p q) fits = ((let z : IsWord 0 = omega arith in z), ((let z : IsWord 0 = omega arith in z), tt))
  instrs_step u (Op o p q r) fits = (tt, (tt, tt))
  instrs_step u (Load p c) fits = let a = address_is_word [] cells c small fits in
      ((a, ref_int_is_basic), ((a, ref_int_is_basic), (tt, (tt, tt))))
  instrs_step u (Store c q spare) fits = let a = address_is_word [] cells c small fits in
      ((a, ref_int_is_basic), ((a, ref_int_is_basic), (tt, (tt, tt))))
  instrs_step u (LoadAt p q begin many) fits = let r = run_there cells begin many fits in (r, (r, (tt, (tt, tt))))
  instrs_step u (StoreAt begin many i q spare) fits = let r = run_there cells begin many fits in
      (r, (r, (tt, (tt, tt))))
  instrs_step u (Exit q spare to) fits = (
    (words to, code_one_is_basic),
    ((words to, code_one_is_basic), (tt, (tt, tt))),
  )
  instrs_step u (Go spare to) fits = ((words to, code_one_is_basic), ((words to, code_one_is_basic), (tt, (tt, tt))))
  instrs_step u Stop fits = (tt, tt)

  -- the instructions of a row obey the rules
  instrs_row : (scope : ℕ) (k : Known) (w : Noted) (is : List Step3) → RowIsWell vars cells blocks k is →
      All (IsInstr 2 cells) (row_coded vars start scope w is)
  instrs_row scope k w [] h = All-nil (IsInstr 2 cells)
  instrs_row scope k w (i ∷ is) h =
      let here = coded_step start (jump_subst vars w) i in
      All-append (IsInstr 2 cells) here (row_coded vars start scope (step_noted vars scope w i) is)
      (All-from_recursion (IsInstr 2 cells) here (instrs_step (jump_subst vars w) i h.0))
      (instrs_row scope (known_after i k) (step_noted vars scope w i) is h.2)

  -- the instructions of all blocks obey the rules
  pub instrs_blocks : (b : ℕ) (w : Noted) (xs : Blocks) → RowsAreFine vars cells blocks b xs →
      All (IsInstr 2 cells) (joined vars start (rows_coded vars start b w xs))
  instrs_blocks b w [] h = All-nil (IsInstr 2 cells)
  instrs_blocks b w (x ∷ xs) h =
      All-append (IsInstr 2 cells) (row_coded vars start (scope_of_block vars b) (begun w) x)
      (joined vars start (rows_coded vars start (suc b) (block_noted vars b w x) xs))
      (instrs_row (scope_of_block vars b) _ (begun w) x h.0.well)
      (instrs_blocks (suc b) (block_noted vars b w x) xs h.1)

-- SUBSTITUTIONS

module _ (vars : ℕ) (start : ℕ → ℕ) where
  -- the instructions of a step carry the substitution that it adds
  substs_step : (w : Noted) (i : Step3) (rest : List Instr) → substs_of (coded_step start (jump_subst vars w) i ++ rest)
      ≡ step_added vars start w i ++ substs_of rest
  substs_step w (Put p v) rest = refl
  substs_step w (Copy p q) rest = refl
  substs_step w (Op o p q r) rest = refl
  substs_step w (Load p c) rest = refl
  substs_step w (Store c q spare) rest = refl
  substs_step w (LoadAt p q begin many) rest = refl
  substs_step w (StoreAt begin many i q spare) rest = refl
  substs_step w (Exit q spare to) rest = refl
  substs_step w (Go spare to) rest = refl
  substs_step w Stop rest = refl

  -- the instructions of a row carry the substitutions that it adds
  substs_row : (scope : ℕ) (w : Noted) (is : List Step3) (rest : List Instr) →
      substs_of (row_coded vars start scope w is ++ rest) ≡ row_added vars start scope w is ++ substs_of rest
  substs_row scope w [] rest = refl
  substs_row scope w (i ∷ is) rest =
      let v = step_noted vars scope w i in
      ap substs_of (append_assoc (coded_step start (jump_subst vars w) i) (row_coded vars start scope v is) rest)
      ∙ substs_step w i (row_coded vars start scope v is ++ rest)
      ∙ ap (λ l. step_added vars start w i ++ l) (substs_row scope v is rest)
      ∙ sym (append_assoc (step_added vars start w i) (row_added vars start scope v is) (substs_of rest))

  -- the instructions of all blocks carry the substitutions that these add
  pub substs_blocks : (b : ℕ) (w : Noted) (xs : Blocks) → substs_of (joined vars start (rows_coded vars start b w xs))
      ≡ blocks_added vars start b w xs
  substs_blocks b w [] = refl
  substs_blocks b w (x ∷ xs) =
      let v = block_noted vars b w x in
      substs_row (scope_of_block vars b) (begun w) x (joined vars start (rows_coded vars start (suc b) v xs))
      ∙ ap (λ l. row_added vars start (scope_of_block vars b) (begun w) x ++ l) (substs_blocks (suc b) v xs)

-- CODE TYPES

-- the registers of the blue rows are in increasing order
blue_rising : (least a n : ℕ) → least ≤ 32 + a → a + n ≤ 32 → AreRising least (map blue_row (range_with_len a n))
blue_rising least a zero h k = tt
blue_rising least a (suc n) h k =
    let e = blue_number a (omega arith) in
    (omega arith, blue_rising (suc (blue a).number) (a + 1) n (omega arith) (omega arith))

-- the registers of the green rows, followed by the blue rows, are in increasing order
green_rising : (least a n m : ℕ) → least ≤ a → a + n ≤ 32 → m ≤ 32 →
    AreRising least (map green_row (range_with_len a n) ++ map blue_row (range_with_len 0 m))
green_rising least a zero m h k l = blue_rising least 0 m (omega arith) (omega arith)
green_rising least a (suc n) m h k l =
    let e = green_number a (omega arith) in
    (omega arith, green_rising (suc (green a).number) (a + 1) n m (omega arith) (omega arith) l)

module _ (nodes : List Node) (vars : ℕ) (few : vars ≤ 32) (s : Starts (at_first vars).nodes nodes) where
  -- the memory's node may be named
  first_memory : (scope : ℕ) → IsNodeIn nodes scope true 0
  first_memory scope = record {
    lower = let l = starts_length (at_first vars).nodes nodes s in omega arith;
    node = node 0 shape.Memory;
    found = get_starts (at_first vars).nodes nodes 0 (node 0 shape.Memory) s refl;
    sort = refl;
    scope_within = omega arith;
  }

  -- a variable's node may be named
  first_variable : (i : ℕ) → i < vars → IsNodeIn nodes vars false (1 + i)
  first_variable i lt =
      let l = starts_length (at_first vars).nodes nodes s in
      let m : length (at_first vars).nodes ≡ suc vars = ap suc (length-map-range_with_len (variable_node vars) 0 vars)
      in
      let z : suc i ≡ 1 + i = omega arith in
      subst (IsNodeIn nodes vars false) z (record {
        lower = omega arith;
        node = variable_node vars i;
        found = get_starts (at_first vars).nodes nodes (suc i) (variable_node vars i) s (variable_there vars i lt);
        sort = refl;
        scope_within = omega arith;
      })

  -- a fact about each number below `vars` holds of each element of their list
  range_all : (P : ℕ → Type 0) → ((i : ℕ) → i < vars → P i) → All P (range_with_len 0 vars)
  range_all P h k d lt = let l = length-range_with_len 0 vars in let kv : k < vars = omega arith in
      let z : k ≡ 0 + k = omega arith in subst P (z ∙ sym (get_or-range_with_len 0 vars k d kv)) (h k kv)

  -- the two code types obey the rules
  pub types_lawful : All (IsCodeType 2 nodes) (entry_type ∷ variables_type vars ∷ [])
  types_lawful = All-from_recursion (IsCodeType 2 nodes) (entry_type ∷ variables_type vars ∷ []) (
    record {
      ints = omega arith;
      regs = All-nil (IsRegRow 2 nodes 0);
      rising = tt;
      queue_length = omega arith;
      queue = All-nil (IsQueueRow nodes 0);
      memory = first_memory 0;
    },
    (
      record {
        ints = omega arith;
        regs = All-append (IsRegRow 2 nodes vars) (map green_row (range_with_len 0 vars))
            (map blue_row (range_with_len 0 vars))
            (All-map (IsRegRow 2 nodes vars) green_row (range_with_len 0 vars)
            (range_all (λ i. IsRegRow 2 nodes vars (green_row i)) (λ i lt. record {
              basic = int_is_basic;
              expr = first_variable i lt;
            })))
            (All-map (IsRegRow 2 nodes vars) blue_row (range_with_len 0 vars)
            (range_all (λ i. IsRegRow 2 nodes vars (blue_row i)) (λ i lt. record {
              basic = int_is_basic;
              expr = first_variable i lt;
            })));
        rising = green_rising 0 0 vars vars (omega arith) (omega arith) few;
        queue_length = omega arith;
        queue = All-nil (IsQueueRow nodes vars);
        memory = first_memory vars;
      },
      tt,
    ),
  )

-- the register rows of the two code types are within the limit
pub reg_rows_few : (vars : ℕ) → vars ≤ 32 → reg_row_count (entry_type ∷ variables_type vars ∷ []) ≤ 262144
reg_rows_few vars few =
    let l = length-append (map green_row (range_with_len 0 vars)) (map blue_row (range_with_len 0 vars)) in
    let m = length-map-range_with_len green_row 0 vars in
    let n = length-map-range_with_len blue_row 0 vars in
    omega arith

-- the queue rows of the two code types are within the limit
pub queue_rows_few : (vars : ℕ) → queue_row_count (entry_type ∷ variables_type vars ∷ []) ≤ 32768
queue_rows_few vars = omega arith

-- BLOCKS

-- the blocks after the first are in order
later_blocks : (end least n : ℕ) (xs : Blocks) → least ≤ n → n + blocks_size xs ≤ end → HaveSome xs →
    AreBlocks end least (map block_from (starts_from n xs))
later_blocks end least n [] h k some = tt
later_blocks end least n (x ∷ xs) h k some = (
  h,
  omega (arith, k, some.0),
  later_blocks end (suc n) (n + row_size x) xs (omega (arith, some.0)) (omega (arith, k)) some.1,
)

-- all blocks are in order
pub blocks_in_order : (end : ℕ) (xs : Blocks) → blocks_size xs ≤ end → HaveSome xs →
    AreBlocks end 0 (blocks_at (starts_from 0 xs))
blocks_in_order end [] k some = tt
blocks_in_order end (x ∷ xs) k some = (
  omega arith,
  omega (arith, k, some.0),
  later_blocks end 1 (0 + row_size x) xs (omega (arith, some.0)) (omega (arith, k)) some.1,
)

-- the first block begins at 0
pub blocks_begin : (xs : Blocks) → 0 < length xs → BeginAtZero (blocks_at (starts_from 0 xs))
blocks_begin [] h = absurd (omega (arith, h))
blocks_begin (x ∷ xs) h = refl

-- each block has one of the two code types
pub blocks_typed : (ss : List ℕ) → All (HasCodeType 2) (blocks_at ss)
blocks_typed [] = All-nil (HasCodeType 2)
blocks_typed (s ∷ ss) = All-cons (HasCodeType 2) (record { start = s; code_type = 0 }) (map block_from ss)
    (let z : 0 < 2 = omega arith in z) (All-map (HasCodeType 2) block_from ss (λ k d lt. let z : 1 < 2 = omega arith in
    z))

-- there are as many blocks as places
pub blocks_many : (ss : List ℕ) → length (blocks_at ss) ≡ length ss
blocks_many [] = refl
blocks_many (s ∷ ss) = ap suc (others ss)
  where
    others : (ts : List ℕ) → length (map block_from ts) ≡ length ts
    others [] = refl
    others (t ∷ ts) = ap suc (others ts)
