-- Each node of a valid list stands for exactly one tree, whose numbers are words and whose variables are within the
-- node's scope; and the equality test on trees is exact.
use Rattle.std.proofs.Common.{ℕ, suc, zero, ◌≡◌, ◌<◌, ◌≤◌, ◌+◌, true, false, List, [], ◌∷◌, ◌++◌, length, get_or}
use Rattle.std.proofs.Common.{slice_get, Some, refl, sym, ap, ◌∙◌, arith, subst, Bool, ◌==◌, eqb-true, eq-eqb}
use Rattle.std.proofs.lemmas.List.{get_or_append_left, get_or_push, length_push}
use Rattle.std.proofs.lemmas.Bool.{and_parts, and_from}
use Rattle.ft_isa.specs.Operations.{op_code, op_of}
use Rattle.ft_isa.specs.declared.op.Op.{Op}
use Rattle.ft_isa.proofs.Operations.{op_back}
use Rattle.ft_static.specs.Expression.{Integer, Memory, Expression, word, variable, operation, sel, rem}
use Rattle.ft_static.specs.Expression.{memory_variable, upd, integer, memory, HasWords, HasVariablesBelow, AreWords}
use Rattle.ft_static.specs.Expression.{AreWordsOfMemory, IsWithin, IsMemoryWithin, same_integer, same_memory}
use Rattle.ft_static.specs.NodeRules.{MayName, IsShape, AreNodes}
use Rattle.ft_static.specs.NodeParts.{is_memory, EachPart, renamed}
use Rattle.ft_static.specs.NodeTree.{integer_part, memory_part, integer_at, memory_at, tree_of, trees_onto, trees}
use Rattle.ft_static.specs.NodeTree.{tree_at, HasShape, StandsFor, word_node, variable_node, operation_node, sel_node}
use Rattle.ft_static.specs.NodeTree.{rem_node, memory_node, upd_node, HasPartsBelow}
use Rattle.ft_static.specs.declared.node.Node.{Node}
use Rattle.ft_static.specs.declared.node.Shape.{Shape}
use Rattle.ft_static.specs.declared.node.Shape.TheVariants as shape

-- P or M holds of each part of an integer, depending on the part's sort
abbrev pub OfParts : (Integer → Type 0) → (Memory → Type 0) → Integer → Type 0
OfParts P M (operation o a b) = P a × P b
OfParts P M (sel m a) = M m × P a
OfParts P M (rem a n) = P a
OfParts P M e = Unit {0}

-- P or M holds of each part of a memory, depending on the part's sort
abbrev pub OfMemoryParts : (Integer → Type 0) → (Memory → Type 0) → Memory → Type 0
OfMemoryParts P M (upd m a v) = M m × P a × P v
OfMemoryParts P M m = Unit {0}

-- P holds of all integers, and M of all memories
abbrev pub OfAll : (Integer → Type 0) → (Memory → Type 0) → Type 0
OfAll P M = ((e : Integer) → P e) × ((m : Memory) → M m)

-- induction: a property that an expression has whenever its parts do holds of all expressions
module _ (P : Integer → Type 0) (M : Memory → Type 0) (f : (e : Integer) → OfParts P M e → P e)
    (g : (m : Memory) → OfMemoryParts P M m → M m) where
  mutual
    whole : (e : Integer) → P e
    whole (operation o a b) = f (operation o a b) (whole a, whole b)
    whole (sel m a) = f (sel m a) (stored m, whole a)
    whole (rem a n) = f (rem a n) (whole a)
    whole e = f e tt

    stored : (m : Memory) → M m
    stored (upd m a v) = g (upd m a v) (stored m, whole a, whole v)
    stored m = g m tt

  pub by_parts : OfAll P M
  by_parts = (whole, stored)

-- likewise, under a condition that passes on to the parts
pub by_parts_where : (C P : Integer → Type 0) (D M : Memory → Type 0) → ((e : Integer) → C e → OfParts C D e) →
    ((m : Memory) → D m → OfMemoryParts C D m) → ((e : Integer) → C e → OfParts P M e → P e) →
    ((m : Memory) → D m → OfMemoryParts P M m → M m) → OfAll (λ e. C e → P e) (λ m. D m → M m)
by_parts_where C P D M c d f g = by_parts (λ e. C e → P e) (λ m. D m → M m)
    (λ e h k. f e k (met e (c e k) h)) (λ m h k. g m k (stored_met m (d m k) h))
  where
    met : (e : Integer) → OfParts C D e → OfParts (λ e. C e → P e) (λ m. D m → M m) e → OfParts P M e
    met (operation o a b) k h = (h.0 k.0, h.1 k.1)
    met (sel m a) k h = (h.0 k.0, h.1 k.1)
    met (rem a n) k h = h k
    met e k h = tt

    stored_met : (m : Memory) → OfMemoryParts C D m → OfMemoryParts (λ e. C e → P e) (λ m. D m → M m) m →
        OfMemoryParts P M m
    stored_met (upd m a v) k h = (h.0 k.0, h.1 k.1, h.2 k.2)
    stored_met m k h = tt

-- the default if there is no tree
abbrev none : Expression
none = integer (word 0)

-- if two facts about a part imply a third, and the two hold of each part, then the third does too
pub each_part_both : (P Q R : Bool → ℕ → Type 0) → ((s : Bool) (k : ℕ) → P s k → Q s k → R s k) → (x : Shape) →
    EachPart P x → EachPart Q x → EachPart R x
each_part_both P Q R f (shape.Op o a b) h g = (f false a h.0 g.0, f false b h.1 g.1)
each_part_both P Q R f (shape.Sel m a) h g = (f true m h.0 g.0, f false a h.1 g.1)
each_part_both P Q R f (shape.Upd m a v) h g = (f true m h.0 g.0, f false a h.1 g.1, f false v h.2 g.2)
each_part_both P Q R f (shape.Rem a m) h g = f false a h g
each_part_both P Q R f x h g = tt

-- likewise, if one fact implies another
pub each_part : (P R : Bool → ℕ → Type 0) → ((s : Bool) (k : ℕ) → P s k → R s k) → (x : Shape) → EachPart P x →
    EachPart R x
each_part P R f x h = each_part_both P P R (λ s k p q. f s k p) x h h

-- what holds of a node's parts under their new numbers holds of the parts of the renamed node
pub each_renamed : (P : Bool → ℕ → Type 0) (f : ℕ → ℕ) (x : Shape) → EachPart (λ s k. P s (f k)) x →
    EachPart P (renamed f x)
each_renamed P f (shape.Word w) h = tt
each_renamed P f x h = h

-- a lawful node may name each of its parts
pub parts_named : (nodes : List Node) (n scope : ℕ) (x : Shape) → IsShape nodes n scope x →
    EachPart (MayName nodes n scope) x
parts_named nodes n scope (shape.Word w) h = tt
parts_named nodes n scope (shape.Var i) h = tt
parts_named nodes n scope (shape.Rem a m) h = h.0
parts_named nodes n scope x h = h

-- the parts of a lawful node have lower numbers
pub parts_below : (nodes : List Node) (n scope : ℕ) (x : Shape) → IsShape nodes n scope x → HasPartsBelow n x
parts_below nodes n scope x h =
    each_part (MayName nodes n scope) (λ s k. k < n) (λ s k m. m.lower) x (parts_named nodes n scope x h)

-- a renamed node has the same tree as the original node if their parts have the same trees
pub tree_of-renamed : (ts us : List Expression) (f : ℕ → ℕ) (x : Shape) →
    EachPart (λ s k. get_or ts (f k) none ≡ get_or us k none) x → tree_of ts (renamed f x) ≡ tree_of us x
tree_of-renamed ts us f (shape.Word w) h = refl
tree_of-renamed ts us f x h = cc

-- two lists of trees that agree on a node's parts give it the same tree
tree_of-agrees : (ts us : List Expression) (x : Shape) → EachPart (λ s k. get_or ts k none ≡ get_or us k none) x →
    tree_of ts x ≡ tree_of us x
tree_of-agrees ts us (shape.Word w) h = refl
tree_of-agrees ts us x h = cc

-- appending nodes does not change the earlier trees
trees_onto-keeps : (ts : List Expression) (ns : List Node) (k : ℕ) → k < length ts → get_or (trees_onto ts ns) k none
    ≡ get_or ts k none
trees_onto-keeps ts [] k h = refl
trees_onto-keeps ts (x ∷ ns) k h =
    let l = length_push ts (tree_of ts x.shape) in
    trees_onto-keeps (ts ++ tree_of ts x.shape ∷ []) ns k (omega arith)
    ∙ get_or_append_left ts (tree_of ts x.shape ∷ []) none k h

-- each appended node has the tree of its shape
trees_onto-row : (ts : List Expression) (ns : List Node) (j n : ℕ) (x : Node) → n ≡ length ts + j → slice_get ns j
    ≡ Some x → HasPartsBelow n x.shape → get_or (trees_onto ts ns) n none ≡ tree_of (trees_onto ts ns) x.shape
trees_onto-row ts [] j n x e f h = cc
trees_onto-row ts (y ∷ ns) zero n x e f h =
    let q : y ≡ x = cc in
    let l = length_push ts (tree_of ts y.shape) in
    let m : length ts ≡ n = omega arith in
    trees_onto-keeps (ts ++ tree_of ts y.shape ∷ []) ns n (omega arith)
    ∙ (get_or_push ts (tree_of ts y.shape) none n m
    ∙ (ap (λ (z : Node). tree_of ts z.shape) q
    ∙ sym (tree_of-agrees (trees_onto ts (y ∷ ns)) ts x.shape (each_part (λ s k. k < n) _
    (λ s k b. trees_onto-keeps ts (y ∷ ns) k (omega arith)) x.shape h))))
trees_onto-row ts (y ∷ ns) (suc j) n x e f h =
    let l = length_push ts (tree_of ts y.shape) in
    trees_onto-row (ts ++ tree_of ts y.shape ∷ []) ns j n x (omega arith) f h

-- the tree of a node is that of its shape, from the trees of its parts
pub tree_at-row : (nodes : List Node) (n : ℕ) (x : Node) → AreNodes nodes → slice_get nodes n ≡ Some x → tree_at nodes n
    ≡ tree_of (trees nodes) x.shape
tree_at-row nodes n x h f = trees_onto-row [] nodes n n x (omega arith) f
    (parts_below nodes n x.scope x.shape (h.each n x f).shape)

-- the tree of a node that is not a memory is an integer
pub integer_tree : (ts : List Expression) (x : Shape) → is_memory x ≡ false → tree_of ts x
    ≡ integer (integer_part (tree_of ts x))
integer_tree ts (shape.Word w) e = refl
integer_tree ts x e = cc

-- the tree of a memory node is a memory
pub memory_tree : (ts : List Expression) (x : Shape) → is_memory x ≡ true → tree_of ts x
    ≡ memory (memory_part (tree_of ts x))
memory_tree ts (shape.Word w) e = cc
memory_tree ts x e = cc

-- the tree of a node that is named as an integer is an integer
pub integer_named : (nodes : List Node) (n scope m : ℕ) → AreNodes nodes → MayName nodes n scope false m →
    tree_at nodes m ≡ integer (integer_at (trees nodes) m)
integer_named nodes n scope m h k =
    let e = tree_at-row nodes m k.node h k.found in
    subst (λ t. t ≡ integer (integer_part t)) (sym e) (integer_tree (trees nodes) k.node.shape k.sort)

-- the tree of a node that is named as a memory is a memory
pub memory_named : (nodes : List Node) (n scope m : ℕ) → AreNodes nodes → MayName nodes n scope true m → tree_at nodes m
    ≡ memory (memory_at (trees nodes) m)
memory_named nodes n scope m h k =
    let e = tree_at-row nodes m k.node h k.found in
    subst (λ t. t ≡ memory (memory_part t)) (sym e) (memory_tree (trees nodes) k.node.shape k.sort)

-- a node stands for the tree of its shape if its parts stand for theirs
stands_shape : (nodes : List Node) (n scope : ℕ) (x : Shape) → AreNodes nodes → HasShape nodes n x →
    IsShape nodes n scope x → ((k : ℕ) (y : Node) → k < n → slice_get nodes k ≡ Some y →
    StandsFor nodes k (tree_at nodes k)) → StandsFor nodes n (tree_of (trees nodes) x)
stands_shape nodes n scope x h s p lower = go x s p
  where
    whole : (m : ℕ) → MayName nodes n scope false m → StandsFor nodes m (integer (integer_at (trees nodes) m))
    whole m k = subst (StandsFor nodes m) (integer_named nodes n scope m h k) (lower m k.node k.lower k.found)

    stored : (m : ℕ) → MayName nodes n scope true m → StandsFor nodes m (memory (memory_at (trees nodes) m))
    stored m k = subst (StandsFor nodes m) (memory_named nodes n scope m h k) (lower m k.node k.lower k.found)

    go : (y : Shape) → HasShape nodes n y → IsShape nodes n scope y → StandsFor nodes n (tree_of (trees nodes) y)
    go (shape.Word w) s p = word_node n w s
    go (shape.Var i) s p = variable_node n i s
    go (shape.Op o a b) s p = operation_node n o a b (integer_at (trees nodes) a) (integer_at (trees nodes) b) s
        (whole a p.0) (whole b p.1)
    go (shape.Sel m a) s p = sel_node n m a (memory_at (trees nodes) m) (integer_at (trees nodes) a) s (stored m p.0)
        (whole a p.1)
    go shape.Memory s p = memory_node n s
    go (shape.Upd m a v) s p = upd_node n m a v (memory_at (trees nodes) m) (integer_at (trees nodes) a)
        (integer_at (trees nodes) v) s (stored m p.0) (whole a p.1) (whole v p.2)
    go (shape.Rem a m) s p = rem_node n a m (integer_at (trees nodes) a) s (whole a p.0)

-- all nodes below a bound stand for their trees
stands_below : (nodes : List Node) (bound n : ℕ) (x : Node) → AreNodes nodes → n < bound → slice_get nodes n ≡ Some x →
    StandsFor nodes n (tree_at nodes n)
stands_below nodes zero n x h b f = absurd (omega (arith, b))
stands_below nodes (suc bound) n x h b f = subst (StandsFor nodes n) (sym (tree_at-row nodes n x h f))
    (stands_shape nodes n x.scope x.shape h (record { node = x; found = f; shape = refl }) (h.each n x f).shape
    (λ k y l g. stands_below nodes bound k y h (omega (arith, b, l)) g))

-- a node stands for its tree
pub stands_for_tree : (nodes : List Node) (n : ℕ) (x : Node) → AreNodes nodes → slice_get nodes n ≡ Some x →
    StandsFor nodes n (tree_at nodes n)
stands_for_tree nodes n x h f = stands_below nodes (suc n) n x h (omega arith) f

-- the tree of a node is that of its shape
shaped : (nodes : List Node) (n : ℕ) (x : Shape) → AreNodes nodes → HasShape nodes n x → tree_at nodes n
    ≡ tree_of (trees nodes) x
shaped nodes n x h s = tree_at-row nodes n s.node h s.found ∙ ap (tree_of (trees nodes)) s.shape

-- a node stands for no tree other than its own
pub stands_for_one : (nodes : List Node) (n : ℕ) (t : Expression) → AreNodes nodes → StandsFor nodes n t →
    tree_at nodes n ≡ t
stands_for_one nodes _ _ h (word_node n w s) = shaped nodes n (shape.Word w) h s
stands_for_one nodes _ _ h (variable_node n i s) = shaped nodes n (shape.Var i) h s
stands_for_one nodes _ _ h (operation_node n o j k a b s p q) =
    shaped nodes n (shape.Op o j k) h s ∙ rw (
      stands_for_one nodes j (integer a) h p,
      stands_for_one nodes k (integer b) h q,
    ) refl
stands_for_one nodes _ _ h (sel_node n j k m a s p q) =
    shaped nodes n (shape.Sel j k) h s ∙ rw (
      stands_for_one nodes j (memory m) h p,
      stands_for_one nodes k (integer a) h q,
    ) refl
stands_for_one nodes _ _ h (rem_node n j m a s p) =
    shaped nodes n (shape.Rem j m) h s ∙ rw (stands_for_one nodes j (integer a) h p) refl
stands_for_one nodes _ _ h (memory_node n s) = shaped nodes n shape.Memory h s
stands_for_one nodes _ _ h (upd_node n j k l m a v s p q r) =
    shaped nodes n (shape.Upd j k l) h s ∙ rw (
      stands_for_one nodes j (memory m) h p,
      stands_for_one nodes k (integer a) h q,
      stands_for_one nodes l (integer v) h r,
    ) refl

mutual
  -- variables below a number are below a larger one
  within_more : (e : Integer) (m n : ℕ) → m ≤ n → IsWithin m e → IsWithin n e
  within_more (word w) m n l h = tt
  within_more (variable i) m n l h = omega (arith, h)
  within_more (operation o a b) m n l h = (within_more a m n l h.0, within_more b m n l h.1)
  within_more (sel k a) m n l h = (memory_within_more k m n l h.0, within_more a m n l h.1)
  within_more (rem a k) m n l h = within_more a m n l h

  -- likewise for the variables of a memory
  memory_within_more : (k : Memory) (m n : ℕ) → m ≤ n → IsMemoryWithin m k → IsMemoryWithin n k
  memory_within_more memory_variable m n l h = tt
  memory_within_more (upd k a v) m n l h = (
    memory_within_more k m n l h.0,
    within_more a m n l h.1,
    within_more v m n l h.2,
  )

-- the numbers in an expression are words, and its variables are below n
abbrev Fits : ℕ → Expression → Type 0
Fits n t = HasWords t × HasVariablesBelow n t

-- the tree of a shape fits if the trees of its parts do
fits_shape : (nodes : List Node) (n scope : ℕ) (x : Shape) → AreNodes nodes → IsShape nodes n scope x →
    ((k : ℕ) (y : Node) → k < n → slice_get nodes k ≡ Some y → Fits y.scope (tree_at nodes k)) →
    Fits scope (tree_of (trees nodes) x)
fits_shape nodes n scope x h p lower = go x p
  where
    whole : (m : ℕ) → MayName nodes n scope false m → AreWords (integer_at (trees nodes) m)
        × IsWithin scope (integer_at (trees nodes) m)
    whole m k =
        let f : Fits k.node.scope (integer (integer_at (trees nodes) m)) =
        subst (Fits k.node.scope) (integer_named nodes n scope m h k) (lower m k.node k.lower k.found) in
        (f.0, within_more (integer_at (trees nodes) m) k.node.scope scope k.scope_within f.1)

    stored : (m : ℕ) → MayName nodes n scope true m → AreWordsOfMemory (memory_at (trees nodes) m)
        × IsMemoryWithin scope (memory_at (trees nodes) m)
    stored m k =
        let f : Fits k.node.scope (memory (memory_at (trees nodes) m)) =
        subst (Fits k.node.scope) (memory_named nodes n scope m h k) (lower m k.node k.lower k.found) in
        (f.0, memory_within_more (memory_at (trees nodes) m) k.node.scope scope k.scope_within f.1)

    go : (y : Shape) → IsShape nodes n scope y → Fits scope (tree_of (trees nodes) y)
    go (shape.Word w) p = (p, tt)
    go (shape.Var i) p = (tt, p)
    go (shape.Op o a b) p = let f = whole a p.0 in let g = whole b p.1 in ((f.0, g.0), (f.1, g.1))
    go (shape.Sel m a) p = let f = stored m p.0 in let g = whole a p.1 in ((f.0, g.0), (f.1, g.1))
    go shape.Memory p = (tt, tt)
    go (shape.Upd m a v) p = let f = stored m p.0 in let g = whole a p.1 in let k = whole v p.2 in
        ((f.0, g.0, k.0), (f.1, g.1, k.1))
    go (shape.Rem a m) p = let f = whole a p.0 in ((f.0, p.1), f.1)

-- the trees of all nodes below a bound fit
fits_below : (nodes : List Node) (bound n : ℕ) (x : Node) → AreNodes nodes → n < bound → slice_get nodes n ≡ Some x →
    Fits x.scope (tree_at nodes n)
fits_below nodes zero n x h b f = absurd (omega (arith, b))
fits_below nodes (suc bound) n x h b f = subst (Fits x.scope) (sym (tree_at-row nodes n x h f))
    (fits_shape nodes n x.scope x.shape h (h.each n x f).shape (λ k y l g.
    fits_below nodes bound k y h (omega (arith, b, l)) g))

-- the numbers in a node's tree are words, and its variables are within the node's scope
pub tree_fits : (nodes : List Node) (n : ℕ) (x : Node) → AreNodes nodes → slice_get nodes n ≡ Some x →
    HasWords (tree_at nodes n) × HasVariablesBelow x.scope (tree_at nodes n)
tree_fits nodes n x h f = fits_below nodes (suc n) n x h (omega arith) f

-- TESTS

-- operations with the same code are the same
op_same : (o p : Op) → (op_code o == op_code p) ≡ true → o ≡ p
op_same o p e = sym (op_back o) ∙ ap op_of (eqb-true _ _ e) ∙ op_back p

mutual
  -- integers that pass the test are equal
  pub same_integer_is : (e f : Integer) → same_integer e f ≡ true → e ≡ f
  same_integer_is (word v) (word w) e = ap word (eqb-true v w e)
  same_integer_is (variable i) (variable j) e = ap variable (eqb-true i j e)
  same_integer_is (operation o a b) (operation p c d) e =
      let q = and_parts _ _ e in
      let r = and_parts _ _ q.0 in
      λ i. operation (op_same o p r.0 i) (same_integer_is a c r.1 i) (same_integer_is b d q.1 i)
  same_integer_is (sel m a) (sel n c) e = let q = and_parts _ _ e in
      λ i. sel (same_memory_is m n q.0 i) (same_integer_is a c q.1 i)
  same_integer_is (rem a l) (rem c k) e = let q = and_parts _ _ e in
      λ i. rem (same_integer_is a c q.1 i) (eqb-true l k q.0 i)
  same_integer_is x y e = cc

  -- memories that pass the test are equal
  pub same_memory_is : (m n : Memory) → same_memory m n ≡ true → m ≡ n
  same_memory_is memory_variable memory_variable e = refl
  same_memory_is (upd m a b) (upd n c d) e =
      let q = and_parts _ _ e in
      let r = and_parts _ _ q.0 in
      λ i. upd (same_memory_is m n r.0 i) (same_integer_is a c r.1 i) (same_integer_is b d q.1 i)
  same_memory_is m n e = cc

mutual
  -- an integer and itself pass the test
  integer_itself : (e : Integer) → same_integer e e ≡ true
  integer_itself (word v) = eq-eqb v v refl
  integer_itself (variable i) = eq-eqb i i refl
  integer_itself (operation o a b) = and_from _ _ (and_from _ _ (eq-eqb (op_code o) (op_code o) refl)
      (integer_itself a)) (integer_itself b)
  integer_itself (sel m a) = and_from _ _ (memory_itself m) (integer_itself a)
  integer_itself (rem a l) = and_from _ _ (eq-eqb l l refl) (integer_itself a)

  -- a memory and itself pass the test
  memory_itself : (m : Memory) → same_memory m m ≡ true
  memory_itself memory_variable = refl
  memory_itself (upd m a b) = and_from _ _ (and_from _ _ (memory_itself m) (integer_itself a)) (integer_itself b)

-- equal integers pass the test
pub integer_same : (e f : Integer) → e ≡ f → same_integer e f ≡ true
integer_same e f h = subst (λ (z : Integer). same_integer e z ≡ true) h (integer_itself e)

-- equal memories pass the test
pub memory_same : (m n : Memory) → m ≡ n → same_memory m n ≡ true
memory_same m n h = subst (λ (z : Memory). same_memory m z ≡ true) h (memory_itself m)
