-- How many nodes and substitution rows the notes have, and where the blocks begin.
use Rattle.std.proofs.Common.{eqb-true, ◌≡◌, ◌≢◌, ℕ, zero, suc, ◌+◌, ◌*◌, ◌<◌, ◌≤◌, Bool, true, false, cond, ◌==◌, List}
use Rattle.std.proofs.Common.{[], ◌∷◌, ◌++◌, length, Some, refl, sym, ap, ◌∙◌, arith, slice_get, take, map}
use Rattle.std.proofs.Common.{length-append}
use Rattle.std.specs.List.{find}
use Rattle.std.proofs.lemmas.Bool.{ne_eqb, eq-eqb}
use Rattle.std.proofs.lemmas.List.{length-take}
use Rattle.ft_isa.specs.Words.{code_address, cell_address}
use Rattle.ft_isa.specs.declared.op.Op.TheVariants.{Add}
use Rattle.ft_isa.proofs.Lists.{length_pushed}
use Rattle.ft_static.specs.declared.node.Node.{Node}
use Rattle.ft_static.specs.declared.node.Shape.TheVariants as shape
use Rattle.ft_types.specs.declared.object.Block.{Block}
use Rattle.ft_types.specs.Objects.{start_of as start_of_block}
use Rattle.ft_lower.specs.declared.step3.Step3.{Step3}
use Rattle.ft_lower.specs.declared.step3.Step3.TheVariants.{Put, Copy, Op, Load, Store, LoadAt, StoreAt, Exit, Go, Stop}
use Rattle.ft_lower.specs.Flow.{Blocks}
use Rattle.ft_lower.specs.Size.{size, row_size, blocks_size}
use Rattle.ft_lower.specs.Well.{IsBlock}
use Rattle.ft_dup.specs.Images.{starts_from, start_of}
use Rattle.ft_compile.specs.Noted.{Noted, node, pair_node, with_node, with_address_nodes, with_jump, step_noted}
use Rattle.ft_compile.specs.Noted.{row_noted, begun, scope_of_block, blocks_noted}
use Rattle.ft_compile.specs.Emitted.{block_from, blocks_at}
use Rattle.ft_compile.proofs.Walked.{block_noted, RowsAreFine}

-- NODES AND ROWS

-- appending one node adds at most n nodes, if n is at least 1
pushes_one : (ns : List Node) (x : Node) (n : ℕ) → 1 ≤ n → length (ns ++ x ∷ []) ≤ length ns + n
pushes_one ns x n h = let l = length_pushed ns x in omega arith

-- appending two nodes adds at most n nodes, if n is at least 2
pushes_two : (ns : List Node) (x y : Node) (n : ℕ) → 2 ≤ n → length ((ns ++ x ∷ []) ++ y ∷ []) ≤ length ns + n
pushes_two ns x y n h = let l = length_pushed ns x in let m = length_pushed (ns ++ x ∷ []) y in omega arith

-- an address adds three nodes
address_length : (scope begin many q : ℕ) (w : Noted) → length (with_address_nodes scope begin many q w).nodes
    ≡ length w.nodes + 3
address_length scope begin many q w =
    let w1 = with_node scope (shape.Word (cell_address begin)) w in
    let w2 = with_node scope (shape.Rem (pair_node w q) many) w1 in
    let a = length_pushed w.nodes (node scope (shape.Word (cell_address begin))) in
    let b = length_pushed w1.nodes (node scope (shape.Rem (pair_node w q) many)) in
    let c = length_pushed w2.nodes (node scope (shape.Op Add (length w.nodes) (length w.nodes + 1))) in
    omega arith

-- a step adds at most one node for each of its instructions
pub nodes_step : (vars scope : ℕ) (w : Noted) (i : Step3) →
    length (step_noted vars scope w i).nodes ≤ length w.nodes + size i
nodes_step vars scope w (Put p v) = pushes_one w.nodes _ 2 (omega arith)
nodes_step vars scope w (Copy p q) = pushes_two w.nodes _ _ 2 (omega arith)
nodes_step vars scope w (Op o p q r) = pushes_one w.nodes _ 2 (omega arith)
nodes_step vars scope w (Load p c) = pushes_two w.nodes _ _ 4 (omega arith)
nodes_step vars scope w (Store c q spare) = pushes_two w.nodes _ _ 4 (omega arith)
nodes_step vars scope w (LoadAt p q begin many) = omega (
  arith,
  address_length scope begin many q w,
  pushes_one (with_address_nodes scope begin many q w).nodes (node scope (shape.Sel w.memory (length w.nodes + 2))) 1
      (omega arith),
)
nodes_step vars scope w (StoreAt begin many i q spare) = omega (
  arith,
  address_length scope begin many i w,
  pushes_one (with_address_nodes scope begin many i w).nodes
      (node scope (shape.Upd w.memory (length w.nodes + 2) (pair_node w q))) 1 (omega arith),
)
nodes_step vars scope w (Exit q spare to) = omega arith
nodes_step vars scope w (Go spare to) = omega arith
nodes_step vars scope w Stop = omega arith

-- a row adds at most one node for each of its instructions
pub nodes_row : (vars scope : ℕ) (w : Noted) (is : List Step3) →
    length (row_noted vars scope w is).nodes ≤ length w.nodes + row_size is
nodes_row vars scope w [] = omega arith
nodes_row vars scope w (i ∷ is) = omega (
  arith,
  nodes_step vars scope w i,
  nodes_row vars scope (step_noted vars scope w i) is,
)

-- blocks add at most one node for each of their instructions
pub nodes_blocks : (vars b : ℕ) (w : Noted) (xs : Blocks) →
    length (blocks_noted vars b w xs).nodes ≤ length w.nodes + blocks_size xs
nodes_blocks vars b w [] = omega arith
nodes_blocks vars b w (x ∷ xs) = omega (
  arith,
  nodes_row vars (scope_of_block vars b) (begun w) x,
  nodes_blocks vars (suc b) (block_noted vars b w x) xs,
)

-- a jump, of four instructions, adds at most 32 rows
rows_jump : (vars : ℕ) (w : Noted) → vars ≤ 32 → length (with_jump vars w).rows ≤ length w.rows + 32
rows_jump vars w few = let l = length-append w.rows (take vars w.pairs) in let m = length-take vars w.pairs in
    omega arith

-- so a step adds at most eight rows for each of its instructions
pub rows_step : (vars scope : ℕ) (w : Noted) (i : Step3) → vars ≤ 32 →
    length (step_noted vars scope w i).rows ≤ length w.rows + 8 * size i
rows_step vars scope w (Put p v) few = omega arith
rows_step vars scope w (Copy p q) few = omega arith
rows_step vars scope w (Op o p q r) few = omega arith
rows_step vars scope w (Load p c) few = omega arith
rows_step vars scope w (Store c q spare) few = omega arith
rows_step vars scope w (LoadAt p q begin many) few = omega arith
rows_step vars scope w (StoreAt begin many i q spare) few = omega arith
rows_step vars scope w (Exit q spare to) few = rows_jump vars w few
rows_step vars scope w (Go spare to) few = rows_jump vars w few
rows_step vars scope w Stop few = omega arith

-- a row adds at most eight rows for each of its instructions
pub rows_row : (vars scope : ℕ) (w : Noted) (is : List Step3) → vars ≤ 32 →
    length (row_noted vars scope w is).rows ≤ length w.rows + 8 * row_size is
rows_row vars scope w [] few = omega arith
rows_row vars scope w (i ∷ is) few = omega (
  arith,
  rows_step vars scope w i few,
  rows_row vars scope (step_noted vars scope w i) is few,
)

-- blocks add at most eight rows for each of their instructions
pub rows_blocks : (vars b : ℕ) (w : Noted) (xs : Blocks) → vars ≤ 32 →
    length (blocks_noted vars b w xs).rows ≤ length w.rows + 8 * blocks_size xs
rows_blocks vars b w [] few = omega arith
rows_blocks vars b w (x ∷ xs) few = omega (
  arith,
  rows_row vars (scope_of_block vars b) (begun w) x few,
  rows_blocks vars (suc b) (block_noted vars b w x) xs few,
)

-- BLOCKS

-- a block has at least one instruction
block_has_some : (is : List Step3) → IsBlock is → 0 < row_size is
block_has_some [] h = absurd h
block_has_some (i ∷ is) h = omega (arith, some i)
  where
    some : (i : Step3) → 0 < size i
    some (Put p v) = omega arith
    some (Copy p q) = omega arith
    some (Op o p q r) = omega arith
    some (Load p c) = omega arith
    some (Store c q spare) = omega arith
    some (LoadAt p q begin many) = omega arith
    some (StoreAt begin many i q spare) = omega arith
    some (Exit q spare to) = omega arith
    some (Go spare to) = omega arith
    some Stop = omega arith

-- each block has at least one instruction
abbrev pub HaveSome : Blocks → Type 0
HaveSome [] = Unit {0}
HaveSome (x ∷ xs) = (0 < row_size x) × HaveSome xs

-- each well-formed block has at least one instruction
pub fine_have_some : (vars cells blocks b : ℕ) (xs : Blocks) → RowsAreFine vars cells blocks b xs → HaveSome xs
fine_have_some vars cells blocks b [] h = tt
fine_have_some vars cells blocks b (x ∷ xs) h = (
  block_has_some x h.0.ended,
  fine_have_some vars cells blocks (suc b) xs h.1,
)

-- so there are at most as many blocks as instructions
pub blocks_few : (xs : Blocks) → HaveSome xs → length xs ≤ blocks_size xs
blocks_few [] h = omega arith
blocks_few (x ∷ xs) h = omega (arith, h.0, blocks_few xs h.1)

-- `starts_from` lists the place of block b's first instruction at index b
pub start_there : (n : ℕ) (xs : Blocks) (b : ℕ) → b < length xs → slice_get (starts_from n xs) b
    ≡ Some (n + start_of xs b)
start_there n [] b h = absurd (omega (arith, h))
start_there n (x ∷ xs) zero h = let z : n ≡ n + 0 = omega arith in ap Some z
start_there n (x ∷ xs) (suc b) h = let z : n + row_size x + start_of xs b ≡ n + (row_size x + start_of xs b) =
    omega arith in start_there (n + row_size x) xs b (omega (arith, h)) ∙ ap Some z

-- a block begins within the instructions, or at their end
pub start_within : (xs : Blocks) (b : ℕ) → start_of xs b ≤ blocks_size xs
start_within [] b = omega arith
start_within (x ∷ xs) zero = omega arith
start_within (x ∷ xs) (suc b) = omega (arith, start_within xs b)

-- the blocks made from a list of places begin at these places
pub places_of_blocks : (ss : List ℕ) → map start_of_block (blocks_at ss) ≡ ss
places_of_blocks [] = refl
places_of_blocks (s ∷ ss) = ap (λ l. s ∷ l) (others ss)
  where
    others : (ts : List ℕ) → map start_of_block (map block_from ts) ≡ ts
    others [] = refl
    others (t ∷ ts) = ap (λ l. t ∷ l) (others ts)

-- a later block is found by the code address of its first instruction
find_later : (ss : List ℕ) (k s : ℕ) → slice_get ss k ≡ Some s →
    find (λ (b : Block). code_address s == code_address b.start) (map block_from ss) ≡ Some (block_from s)
find_later [] k s e = cc
find_later (t ∷ ss) k s e = by (code_address s == code_address t) refl k e (λ j f. find_later ss j s f)
  where
    no : false ≡ true → ⊥
    no g = cc

    by : (b : Bool) → (code_address s == code_address t) ≡ b → (k : ℕ) → slice_get (t ∷ ss) k ≡ Some s →
        ((j : ℕ) → slice_get ss j ≡ Some s → find (λ (b : Block). code_address s == code_address b.start)
        (map block_from ss) ≡ Some (block_from s)) →
        cond (code_address s == code_address t) (Some (block_from t))
        (find (λ (b : Block). code_address s == code_address b.start) (map block_from ss)) ≡ Some (block_from s)
    by true f k e rec = let g : code_address s ≡ code_address t = eqb-true (code_address s) (code_address t) f in
        let h : t ≡ s = omega arith in ap (λ b. cond b (Some (block_from t))
        (find (λ (b : Block). code_address s == code_address b.start) (map block_from ss))) f
        ∙ ap (λ x. Some (block_from x)) h
    by false f zero e rec = let h : t ≡ s = cc in absurd
        (no (sym f ∙ eq-eqb (code_address s) (code_address t) (ap code_address (sym h))))
    by false f (suc j) e rec = ap (λ b. cond b (Some (block_from t))
        (find (λ (b : Block). code_address s == code_address b.start) (map block_from ss))) f ∙ rec j e

-- so any block but the first is found among all blocks
pub find_block : (x : List Step3) (xs : Blocks) (b : ℕ) → 0 < row_size x → b < length xs →
    let s = start_of (x ∷ xs) (suc b) in find (λ (c : Block). code_address s == code_address c.start)
    (blocks_at (starts_from 0 (x ∷ xs))) ≡ Some (block_from s)
find_block x xs b some lt =
    let s = row_size x + start_of xs b in
    let ne : code_address s ≢ code_address 0 = λ e. omega arith in
    let z : 0 + row_size x + start_of xs b ≡ s = omega arith in
    ap (λ c. cond c (Some (record { start = 0; code_type = 0 }))
    (find (λ (c : Block). code_address s == code_address c.start) (map block_from (starts_from (0 + row_size x) xs))))
    (ne_eqb (code_address s) (code_address 0) ne)
    ∙ find_later (starts_from (0 + row_size x) xs) b s (start_there (0 + row_size x) xs b lt ∙ ap Some z)
