-- A node is determined by its outline and its parts, and so is its tree.
use Rattle.std.proofs.Common.{◌≡◌, ℕ, Bool, true, false, if◌then◌else◌, List, [], ◌∷◌, map, get_or, refl, sym, ap, ◌∙◌}
use Rattle.std.specs.List.{AllByRecursion}
use Rattle.ft_static.specs.Expression.{Expression, integer, memory}
use Rattle.ft_static.specs.NodeRules.{MayName, IsShape}
use Rattle.ft_static.specs.NodeParts.{EachPart, renamed}
use Rattle.ft_static.specs.NodeTree.{integer_at, memory_at, tree_of}
use Rattle.ft_static.specs.declared.node.Node.{Node}
use Rattle.ft_static.specs.declared.node.Shape.{Shape}
use Rattle.ft_static.specs.declared.node.Shape.TheVariants as shape

-- the parts in order
abbrev pub parts : Shape → List (Bool × ℕ)
parts (shape.Op op a b) = (false, a) ∷ (false, b) ∷ []
parts (shape.Sel m a) = (true, m) ∷ (false, a) ∷ []
parts (shape.Upd m a v) = (true, m) ∷ (false, a) ∷ (false, v) ∷ []
parts (shape.Rem a m) = (false, a) ∷ []
parts x = []

-- a node with its parts numbered 0, 1 and 2
abbrev pub outline : Shape → Shape
outline (shape.Op op a b) = shape.Op op 0 1
outline (shape.Sel m a) = shape.Sel 0 1
outline (shape.Upd m a v) = shape.Upd 0 1 2
outline (shape.Rem a m) = shape.Rem 0 m
outline x = x

-- the tree of a part
abbrev pub part_tree : List Expression → Bool × ℕ → Expression
part_tree ts p = if p.0 then memory (memory_at ts p.1) else integer (integer_at ts p.1)

-- a part with f applied to its number
abbrev pub part_with : (ℕ → ℕ) → Bool × ℕ → Bool × ℕ
part_with f p = (p.0, f p.1)

-- the number of the i-th part
abbrev number_at : List (Bool × ℕ) → ℕ → ℕ
number_at ps i = let p : Bool × ℕ = get_or ps i (false, 0) in p.1

-- what holds of each part holds of each element of the list of parts
pub each_listed : (P : Bool → ℕ → Type 0) (x : Shape) → EachPart P x →
    AllByRecursion (λ (p : Bool × ℕ). P p.0 p.1) (parts x)
each_listed P (shape.Op o a b) h = (h.0, (h.1, tt))
each_listed P (shape.Sel m a) h = (h.0, (h.1, tt))
each_listed P (shape.Upd m a v) h = (h.0, (h.1, (h.2, tt)))
each_listed P (shape.Rem a m) h = (h, tt)
each_listed P x h = tt

-- renaming keeps the outline
outline-renamed : (f : ℕ → ℕ) (x : Shape) → outline (renamed f x) ≡ outline x
outline-renamed f (shape.Word w) = refl
outline-renamed f x = refl

-- renaming renames each part
parts-renamed : (f : ℕ → ℕ) (x : Shape) → parts (renamed f x) ≡ map (part_with f) (parts x)
parts-renamed f (shape.Word w) = refl
parts-renamed f x = refl

-- a renamed node is its outline with the new numbers
renamed-outline : (f : ℕ → ℕ) (x : Shape) → renamed f x
    ≡ renamed (number_at (map (part_with f) (parts x))) (outline x)
renamed-outline f (shape.Word w) = refl
renamed-outline f x = refl

-- a node's tree is that of its outline over the trees of its parts
tree-outline : (ts : List Expression) (x : Shape) → tree_of ts x ≡ tree_of (map (part_tree ts) (parts x)) (outline x)
tree-outline ts (shape.Word w) = refl
tree-outline ts x = refl

-- nodes with the same outline, whose parts have the same trees, have the same tree
pub one_tree : (ts us : List Expression) (x y : Shape) → outline x ≡ outline y → map (part_tree ts) (parts x)
    ≡ map (part_tree us) (parts y) → tree_of ts x ≡ tree_of us y
one_tree ts us x y e f = tree-outline ts x ∙ (λ i. tree_of (f i) (e i)) ∙ sym (tree-outline us y)

-- renamed nodes are equal if their outlines are equal and their renamed parts are equal
pub one_renamed : (f g : ℕ → ℕ) (x y : Shape) → outline x ≡ outline y → map (part_with f) (parts x)
    ≡ map (part_with g) (parts y) → renamed f x ≡ renamed g y
one_renamed f g x y e h = renamed-outline f x ∙ (λ i. renamed (number_at (h i)) (e i))
    ∙ sym (renamed-outline g y)

pub of_one_renamed : (f g : ℕ → ℕ) (x y : Shape) → renamed f x ≡ renamed g y → (outline x ≡ outline y)
    × (map (part_with f) (parts x) ≡ map (part_with g) (parts y))
of_one_renamed f g x y e = (
  sym (outline-renamed f x) ∙ ap outline e ∙ outline-renamed g y,
  sym (parts-renamed f x) ∙ ap parts e ∙ parts-renamed g y,
)

-- renamings that agree on the parts give the same node
pub renamed_alike : (f g : ℕ → ℕ) (x : Shape) → EachPart (λ s k. f k ≡ g k) x → renamed f x ≡ renamed g x
renamed_alike f g (shape.Word w) h = refl
renamed_alike f g x h = cc

-- a renamed lawful node is lawful if its new parts may be named
pub shape_renamed : (ns ms : List Node) (n j scope : ℕ) (f : ℕ → ℕ) (x : Shape) → IsShape ns n scope x →
    EachPart (λ s k. MayName ms j scope s (f k)) x → IsShape ms j scope (renamed f x)
shape_renamed ns ms n j scope f (shape.Op o a b) h p = p
shape_renamed ns ms n j scope f (shape.Sel m a) h p = p
shape_renamed ns ms n j scope f (shape.Upd m a v) h p = p
shape_renamed ns ms n j scope f (shape.Rem a m) h p = (p, h.1)
shape_renamed ns ms n j scope f x h p = h
