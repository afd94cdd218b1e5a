-- The notes along the steps of a flow: the nodes that mirror its instructions, and the substitutions of its jumps.
use Rattle.std.specs.Prelude.{ℕ, zero, suc, ◌+◌, List, [], ◌∷◌, ◌++◌, length, take, slice_index, slice_set}
use Rattle.std.specs.List.{range_with_len}
use Rattle.ft_isa.specs.Words.{cell_address}
use Rattle.ft_isa.specs.declared.op.Op.TheVariants.{Add}
use Rattle.ft_isa.specs.declared.instr.Subst.{Subst}
use Rattle.ft_static.specs.declared.node.Node.{Node}
use Rattle.ft_static.specs.declared.node.Shape.{Shape}
use Rattle.ft_static.specs.declared.node.Shape.TheVariants as shape
use Rattle.ft_lower.specs.declared.step3.Step3.{Step3}
use Rattle.ft_lower.specs.declared.step3.Step3.TheVariants.{Put, Copy, Op, Load, Store, LoadAt, StoreAt, Exit, Go, Stop}
use Rattle.ft_lower.specs.Flow.{Blocks}

-- the notes so far: the nodes, substitution rows and substitutions, the node of each pair's integer, and the node of
-- the memory
pub record Noted : Type 0 where
  pub nodes : List Node
  pub rows : List ℕ
  pub substs : List Subst
  pub pairs : List ℕ
  pub memory : ℕ

-- a node of this scope
abbrev pub node : ℕ → Shape → Node
node scope x = record { scope = scope; shape = x }

-- the node of a pair's integer
abbrev pub pair_node : Noted → ℕ → ℕ
pair_node w q = slice_index w.pairs q

-- the notes with one more node
abbrev pub with_node : ℕ → Shape → Noted → Noted
with_node scope x w = record w { nodes = w.nodes ++ node scope x ∷ [] }

-- the notes with one more node, which becomes a pair's integer
abbrev pub with_pair_node : ℕ → ℕ → Shape → Noted → Noted
with_pair_node scope p x w = record w { nodes = w.nodes ++ node scope x ∷ []; pairs = slice_set w.pairs p (length w.nodes) }

-- the notes with one more node, which becomes the memory
abbrev pub with_memory_node : ℕ → Shape → Noted → Noted
with_memory_node scope x w = record w { nodes = w.nodes ++ node scope x ∷ []; memory = length w.nodes }

-- the notes with three more nodes, the last of which is the address of the array cell that a word selects
abbrev pub with_address_nodes : ℕ → ℕ → ℕ → ℕ → Noted → Noted
with_address_nodes scope start many q w =
    with_node scope (shape.Op Add (length w.nodes) (length w.nodes + 1))
    (with_node scope (shape.Rem (pair_node w q) many) (with_node scope (shape.Word (cell_address start)) w))

-- the substitution of a jump: the current integers of the variables, and the memory
abbrev pub jump_subst : ℕ → Noted → Subst
jump_subst vars w = record { first = length w.rows; past = length w.rows + vars; memory = w.memory }

-- the notes with a jump's substitution and its rows
abbrev pub with_jump : ℕ → Noted → Noted
with_jump vars w = record w { rows = w.rows ++ take vars w.pairs; substs = w.substs ++ jump_subst vars w ∷ [] }

-- the notes after a step: it adds nodes that mirror its instructions, or a jump's substitution
abbrev pub step_noted : ℕ → ℕ → Noted → Step3 → Noted
step_noted vars scope w (Put p word) = with_pair_node scope p (shape.Word word) w
step_noted vars scope w (Copy p q) = with_pair_node scope p (shape.Op Add (pair_node w q) (length w.nodes)) (with_node scope (shape.Word 0) w)
step_noted vars scope w (Op o p q s) = with_pair_node scope p (shape.Op o (pair_node w q) (pair_node w s)) w
step_noted vars scope w (Load p c) = with_pair_node scope p (shape.Sel w.memory (length w.nodes)) (with_node scope (shape.Word (cell_address c)) w)
step_noted vars scope w (Store c q spare) = with_memory_node scope (shape.Upd w.memory (length w.nodes) (pair_node w q)) (with_node scope (shape.Word (cell_address c)) w)
step_noted vars scope w (LoadAt p q start many) = with_pair_node scope p (shape.Sel w.memory (length w.nodes + 2)) (with_address_nodes scope start many q w)
step_noted vars scope w (StoreAt start many i q spare) = with_memory_node scope (shape.Upd w.memory (length w.nodes + 2) (pair_node w q)) (with_address_nodes scope start many i w)
step_noted vars scope w (Exit q spare to) = with_jump vars w
step_noted vars scope w (Go spare to) = with_jump vars w
step_noted vars scope w Stop = w

-- the notes after the steps of a row
abbrev pub row_noted : ℕ → ℕ → Noted → List Step3 → Noted
row_noted vars scope w [] = w
row_noted vars scope w (i ∷ is) = row_noted vars scope (step_noted vars scope w i) is

-- the nodes of the pairs at the start of a block: node 1 + i is variable i
abbrev pub first_pairs : List ℕ
first_pairs = range_with_len 1 32

-- the notes at the start of a block: node 0 is the memory
abbrev pub begun : Noted → Noted
begun w = record w { pairs = first_pairs; memory = 0 }

-- the scope of block b: the entry has no variables
abbrev pub scope_of_block : ℕ → ℕ → ℕ
scope_of_block vars zero = 0
scope_of_block vars (suc b) = vars

-- the notes after these blocks, the first of which is block b
abbrev pub blocks_noted : ℕ → ℕ → Noted → Blocks → Noted
blocks_noted vars b w [] = w
blocks_noted vars b w (x ∷ xs) = blocks_noted vars (suc b) (row_noted vars (scope_of_block vars b) (begun w) x) xs
