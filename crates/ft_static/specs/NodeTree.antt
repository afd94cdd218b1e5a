-- The tree that a numbered node stands for.
use Rattle.std.specs.Prelude.{◌≡◌, ℕ, List, [], ◌∷◌, ◌++◌, Some, slice_get, slice_index_or, ◌<◌}
use Rattle.ft_static.specs.Expression.{Integer, Memory, Expression, word, variable, operation, sel, rem, memory_variable, upd, integer, memory}
use Rattle.ft_isa.specs.declared.op.Op.{Op}
use Rattle.ft_static.specs.NodeParts.{EachPart}
use Rattle.ft_static.specs.declared.node.Node.{Node}
use Rattle.ft_static.specs.declared.node.Shape.{Shape}
use Rattle.ft_static.specs.declared.node.Shape.TheVariants as shape

-- an expression as an integer, if it is one
abbrev pub integer_part : Expression → Integer
integer_part (integer e) = e
integer_part (memory m) = word 0

-- an expression as a memory, if it is one
abbrev pub memory_part : Expression → Memory
memory_part (integer e) = memory_variable
memory_part (memory m) = m

-- the integer that node n stands for, given the trees of the nodes
abbrev pub integer_at : List Expression → ℕ → Integer
integer_at ts n = integer_part (slice_index_or ts n (integer (word 0)))

-- the memory that node n stands for
abbrev pub memory_at : List Expression → ℕ → Memory
memory_at ts n = memory_part (slice_index_or ts n (integer (word 0)))

-- the tree of a node of this shape, given trees that include those of its parts
abbrev pub tree_of : List Expression → Shape → Expression
tree_of ts (shape.Word w) = integer (word w)
tree_of ts (shape.Var i) = integer (variable i)
tree_of ts (shape.Op o a b) = integer (operation o (integer_at ts a) (integer_at ts b))
tree_of ts (shape.Sel m a) = integer (sel (memory_at ts m) (integer_at ts a))
tree_of ts shape.Memory = memory memory_variable
tree_of ts (shape.Upd m a v) = memory (upd (memory_at ts m) (integer_at ts a) (integer_at ts v))
tree_of ts (shape.Rem a m) = integer (rem (integer_at ts a) m)

-- the trees so far, followed by those of these nodes in order
abbrev pub trees_onto : List Expression → List Node → List Expression
trees_onto ts [] = ts
trees_onto ts (n ∷ ns) = trees_onto (ts ++ tree_of ts n.shape ∷ []) ns

-- the trees of numbered nodes
abbrev pub trees : List Node → List Expression
trees ns = trees_onto [] ns

-- the tree of node n
abbrev pub tree_at : List Node → ℕ → Expression
tree_at ns n = slice_index_or (trees ns) n (integer (word 0))

-- node n exists and has this shape
pub record HasShape (nodes : List Node) (n : ℕ) (x : Shape) : Type 0 where
  pub node : Node
  pub found : slice_get nodes n ≡ Some node
  pub shape : node.shape ≡ x

-- node n stands for this expression: both are of the same kind, and the node's parts stand for the expression's parts
pub data StandsFor (nodes : List Node) : ℕ → Expression → Type 0 where
  word_node : (n w : ℕ) → HasShape nodes n (shape.Word w) → StandsFor nodes n (integer (word w))
  variable_node : (n i : ℕ) → HasShape nodes n (shape.Var i) → StandsFor nodes n (integer (variable i))
  operation_node : (n : ℕ) (o : Op) (j k : ℕ) (a b : Integer) → HasShape nodes n (shape.Op o j k) → StandsFor nodes j (integer a) → StandsFor nodes k (integer b) → StandsFor nodes n (integer (operation o a b))
  sel_node : (n j k : ℕ) (m : Memory) (a : Integer) → HasShape nodes n (shape.Sel j k) → StandsFor nodes j (memory m) → StandsFor nodes k (integer a) → StandsFor nodes n (integer (sel m a))
  rem_node : (n j m : ℕ) (a : Integer) → HasShape nodes n (shape.Rem j m) → StandsFor nodes j (integer a) → StandsFor nodes n (integer (rem a m))
  memory_node : (n : ℕ) → HasShape nodes n shape.Memory → StandsFor nodes n (memory memory_variable)
  upd_node : (n j k l : ℕ) (m : Memory) (a v : Integer) → HasShape nodes n (shape.Upd j k l) → StandsFor nodes j (memory m) → StandsFor nodes k (integer a) → StandsFor nodes l (integer v) → StandsFor nodes n (memory (upd m a v))

-- the parts of a shape are below n
abbrev pub HasPartsBelow : ℕ → Shape → Type 0
HasPartsBelow n x = EachPart (λ s k. k < n) x
