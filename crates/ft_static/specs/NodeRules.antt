-- The rules that numbered nodes obey.
use Rattle.std.specs.Prelude.{◌≡◌, ℕ, ◌<◌, ◌≤◌, Bool, List, length, Some, slice_get}
use Rattle.ft_static.specs.declared.node.Node.{Node}
use Rattle.ft_static.specs.declared.node.Shape.{Shape}
use Rattle.ft_static.specs.NodeParts.{IsInRange, is_memory}

-- node m may be used as a node of this sort, below number n and within this scope
pub record MayName (nodes : List Node) (n scope : ℕ) (memory : Bool) (m : ℕ) : Type 0 where
  pub lower : m < n
  pub node : Node
  pub found : slice_get nodes m ≡ Some node
  pub sort : is_memory node.shape ≡ memory
  pub scope_within : node.scope ≤ scope

-- the rules for the shape of node n: it may name each part, and the word, variable or length in it is in range
abbrev pub IsShape : List Node → ℕ → ℕ → Shape → Type 0
IsShape nodes n scope x = IsInRange (MayName nodes n scope) scope x

-- node n obeys the rules: its scope is at most 128, and its parts are lower nodes of the right sort, within its scope
pub record IsNode (nodes : List Node) (n : ℕ) (node : Node) : Type 0 where
  pub scope : node.scope ≤ 128
  pub shape : IsShape nodes n node.scope node.shape

-- each node obeys the rules, and there are at most 1,048,576
pub record AreNodes (nodes : List Node) : Type 0 where
  pub few : length nodes ≤ 1048576
  pub each : (n : ℕ) (node : Node) → slice_get nodes n ≡ Some node → IsNode nodes n node
