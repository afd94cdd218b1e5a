-- Nodes and the numbers of their trees.
use Rattle.std.specs.Prelude.{◌≡◌, ◌↔◌, ℕ, ◌+◌, ◌<◌, ◌≤◌, List, false, length, Option, Some, slice_get}
use Rattle.ft_static.specs.NodeTree.{tree_at}
use Rattle.ft_static.specs.declared.node.Node.{Node}
use Rattle.ft_static.specs.declared.node.Shape.{Shape}
use Rattle.ft_types.specs.declared.object.Object.{Object}
use Rattle.ft_types.specs.declared.object.RegType.{RegType}
use Rattle.ft_types.specs.Spellable.{IsNodeIn}
use Rattle.ft_modules.specs.TreeKeys.{AreTreeNumbers, number_in, key_of}

-- these are the numbers of all nodes
pub record AreNumbered (nodes : List Node) (cs : List ℕ) : Type 0 where
  pub count : length cs ≡ length nodes
  pub trees : AreTreeNumbers nodes cs (length nodes)

-- the first n nodes have these numbers; the number known for each node's key is the node's own; and each number known
-- for a key is the index of a node with that key
pub record AreKnown (nodes : List Node) (cs : List ℕ) (n : ℕ) (known : Shape → Option ℕ) : Type 0 where
  pub count : length cs ≡ n
  pub trees : AreTreeNumbers nodes cs n
  pub each : (i : ℕ) (y : Node) → i < n → slice_get nodes i ≡ Some y → known (key_of cs y.shape) ≡ Some (number_in cs i)
  pub first : (k : Shape) (c : ℕ) → known k ≡ Some c → (y : Node) × (c < n) × (slice_get nodes c ≡ Some y) × (key_of cs y.shape ≡ k)

-- nodes of two objects, numbered from k and from l: two have equal numbers exactly when they stand for the same tree
pub record AreCompared (cs : List ℕ) (o : Object) (k : ℕ) (x : Object) (l : ℕ) : Type 0 where
  pub from : k + length o.nodes ≤ length cs
  pub to : l + length x.nodes ≤ length cs
  pub same : (n m : ℕ) → n < length o.nodes → m < length x.nodes → number_in cs (k + n) ≡ number_in cs (l + m) ↔ tree_at o.nodes n ≡ tree_at x.nodes m

-- the nodes of a register row or queue row are integers of the object
abbrev pub HasRow : Object → RegType → Type 0
HasRow o r = (scope : ℕ) × IsNodeIn o.nodes scope false r.expr

pub record HasPair (o : Object) (q : ℕ × ℕ) : Type 0 where
  pub scope : ℕ
  pub address : IsNodeIn o.nodes scope false q.0
  pub value : IsNodeIn o.nodes scope false q.1
