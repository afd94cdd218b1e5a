-- Nodes with the same tree have the same outline, and the equality test on nodes is exact.
use Rattle.std.proofs.Common.{◌≡◌, List, map, refl, ap, arith, Decides}
use Rattle.std.proofs.lemmas.Bool.Decides.{nat_tests, Decides-eqb, Decides-like}
use Rattle.ft_isa.proofs.Decided.{op_decides}
use Rattle.ft_static.specs.Expression.{Expression}
use Rattle.ft_static.specs.NodeTree.{tree_of}
use Rattle.ft_static.specs.declared.node.Shape.{Shape}
use Rattle.ft_static.specs.declared.node.Shape.TheVariants as shape
use Rattle.ft_static.specs.contracts.node.ShapePartialEq.TheImpl as shapes
use Rattle.ft_static.proofs.NodeParts.{part_tree, parts, outline}

-- nodes with the same tree have the same outline, and their parts have the same trees
pub of_one_tree : (ts us : List Expression) (x y : Shape) → tree_of ts x ≡ tree_of us y → (outline x ≡ outline y)
    × (map (part_tree ts) (parts x) ≡ map (part_tree us) (parts y))
of_one_tree ts us (shape.Word w) (shape.Word v) e = (cc, refl)
of_one_tree ts us x (shape.Word v) e = (cc, cc)
of_one_tree ts us x y e = (cc, cc)

-- the derived equality test on shapes is exact
pub shape_decides : (x y : Shape) → Decides ((shapes.ghosts).eq x y) (x ≡ y)
shape_decides (shape.Word w) (shape.Word v) = Decides-like _ (λ h. ap shape.Word h) (λ e. cc) (Decides-eqb w v)
shape_decides x y = (λ t. grind (arith, nat_tests, op_decides), λ e. grind (arith, nat_tests, op_decides))
