-- A node that is named as an integer or a memory within a scope has a tree of that sort.
use Rattle.std.proofs.Common.{◌≡◌, ℕ, true, false, List, sym, subst}
use Rattle.ft_static.specs.Expression.{Expression, integer, memory}
use Rattle.ft_static.specs.NodeRules.{AreNodes}
use Rattle.ft_static.specs.NodeTree.{integer_part, memory_part, integer_at, memory_at, trees, tree_at}
use Rattle.ft_static.specs.declared.node.Node.{Node}
use Rattle.ft_static.proofs.NodeTrees.{tree_at-row, integer_tree, memory_tree}
use Rattle.ft_types.specs.Spellable.{IsNodeIn}

-- the tree of a node that is named as an integer is an integer
pub integer_in : (nodes : List Node) (scope n : ℕ) → AreNodes nodes → IsNodeIn nodes scope false n → tree_at nodes n
    ≡ integer (integer_at (trees nodes) n)
integer_in nodes scope n h k =
    let e = tree_at-row nodes n k.node h k.found in
    subst (λ (t : Expression). t ≡ integer (integer_part t)) (sym e) (integer_tree (trees nodes) k.node.shape k.sort)

-- the tree of a node that is named as a memory is a memory
pub memory_in : (nodes : List Node) (scope n : ℕ) → AreNodes nodes → IsNodeIn nodes scope true n → tree_at nodes n
    ≡ memory (memory_at (trees nodes) n)
memory_in nodes scope n h k =
    let e = tree_at-row nodes n k.node h k.found in
    subst (λ (t : Expression). t ≡ memory (memory_part t)) (sym e) (memory_tree (trees nodes) k.node.shape k.sort)
