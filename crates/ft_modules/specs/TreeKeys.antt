-- Numbers of trees: nodes have the same number exactly when they stand for the same tree, so trees are compared without
-- walking them.
use Rattle.std.specs.Prelude.{◌≡◌, ◌↔◌, ℕ, ◌<◌, List, slice_index_or}
use Rattle.ft_static.specs.NodeParts.{renamed}
use Rattle.ft_static.specs.NodeTree.{tree_at}
use Rattle.ft_static.specs.declared.node.Node.{Node}
use Rattle.ft_static.specs.declared.node.Shape.{Shape}

-- the number of node n in a list of nodes' numbers, or 0 beyond its end
abbrev pub number_in : List ℕ → ℕ → ℕ
number_in cs n = slice_index_or cs n 0

-- a shape with its parts replaced by their numbers
abbrev pub key_of : List ℕ → Shape → Shape
key_of cs x = renamed (number_in cs) x

-- these numbers identify the trees of the first n nodes: two numbers are equal exactly when the nodes' trees are
abbrev pub AreTreeNumbers : List Node → List ℕ → ℕ → Type 0
AreTreeNumbers nodes cs n = (i j : ℕ) → i < n → j < n → number_in cs i ≡ number_in cs j ↔ tree_at nodes i ≡ tree_at nodes j
