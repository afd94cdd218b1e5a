-- Shapes whose parts are replaced by their numbers are equal exactly when their trees are.
use Rattle.std.proofs.Common.{◌≡◌, ℕ, ◌<◌, ◌≤◌, Bool, true, false, List, [], ◌∷◌, map, drop}
use Rattle.std.proofs.Common.{get_or, slice_get, Some, refl, sym, ap, ◌∙◌, arith, true≢false}
use Rattle.std.specs.Prelude.{◌↔◌}
use Rattle.std.specs.List.{AllByRecursion}
use Rattle.ft_static.specs.Expression.{word, integer, memory}
use Rattle.ft_static.specs.NodeRules.{MayName, IsShape, AreNodes}
use Rattle.ft_static.specs.NodeTree.{integer_part, memory_part, integer_at, memory_at, tree_of, trees, tree_at}
use Rattle.ft_static.specs.declared.node.Node.{Node}
use Rattle.ft_static.specs.declared.node.Shape.{Shape}
use Rattle.ft_static.proofs.NodeParts.{part_tree, part_with, each_listed, one_tree, one_renamed, of_one_renamed, parts}
use Rattle.ft_static.proofs.NodeTrees.{each_part, parts_named, tree_at-row, integer_named, memory_named}
use Rattle.ft_static.proofs.SameTrees.{of_one_tree}
use Rattle.ft_modules.specs.TreeKeys.{number_in, key_of, AreTreeNumbers}

module _ (nodes : List Node) (cs : List ℕ) (n : ℕ) (h : AreNodes nodes) (s : AreTreeNumbers nodes cs n) where
  -- integers have the same number exactly when they have the same tree
  same_integers : (i j sc sd a b : ℕ) → i ≤ n → j ≤ n → MayName nodes i sc false a → MayName nodes j sd false b →
      number_in cs a ≡ number_in cs b ↔ integer_at (trees nodes) a ≡ integer_at (trees nodes) b
  same_integers i j sc sd a b li lj p q =
      let la : a < n = (let l = p.lower in omega (arith, l, li)) in
      let lb : b < n = (let l = q.lower in omega (arith, l, lj)) in
      let t = s a b la lb in (
        λ e. ap integer_part (t.0 e),
        λ e. t.1 (integer_named nodes i sc a h p ∙ ap integer e
            ∙ sym (integer_named nodes j sd b h q)),
      )

  -- likewise for memories
  same_memories : (i j sc sd a b : ℕ) → i ≤ n → j ≤ n → MayName nodes i sc true a → MayName nodes j sd true b →
      number_in cs a ≡ number_in cs b ↔ memory_at (trees nodes) a ≡ memory_at (trees nodes) b
  same_memories i j sc sd a b li lj p q =
      let la : a < n = (let l = p.lower in omega (arith, l, li)) in
      let lb : b < n = (let l = q.lower in omega (arith, l, lj)) in
      let t = s a b la lb in (
        λ e. ap memory_part (t.0 e),
        λ e. t.1 (memory_named nodes i sc a h p ∙ ap memory e
            ∙ sym (memory_named nodes j sd b h q)),
      )

  -- a part of one of the nodes up to node n, with its sort
  abbrev Named : Bool × ℕ → Type 0
  Named p = (i scope : ℕ) × (i ≤ n) × MayName nodes i scope p.0 p.1

  abbrev numbered : Bool × ℕ → Bool × ℕ
  numbered = part_with (number_in cs)

  -- two parts have the same number exactly when they have the same tree
  same_part : (p q : Bool × ℕ) → Named p → Named q → numbered p ≡ numbered q
      ↔ part_tree (trees nodes) p ≡ part_tree (trees nodes) q
  same_part (false, a) (false, b) h k = let s = same_integers h.0 k.0 h.1 k.1 a b h.2 k.2 h.3 k.3 in
      (λ e. ap integer (s.0 (ap (λ (p : Bool × ℕ). p.1) e)), λ e. ap (λ m. (false, m)) (s.1 (ap integer_part e)))
  same_part (true, a) (true, b) h k = let s = same_memories h.0 k.0 h.1 k.1 a b h.2 k.2 h.3 k.3 in
      (λ e. ap memory (s.0 (ap (λ (p : Bool × ℕ). p.1) e)), λ e. ap (λ m. (true, m)) (s.1 (ap memory_part e)))
  same_part (false, a) (true, b) h k = (λ e. absurd (true≢false (sym (ap (λ (p : Bool × ℕ). p.0) e))), λ e. cc)
  same_part (true, a) (false, b) h k = (λ e. absurd (true≢false (ap (λ (p : Bool × ℕ). p.0) e)), λ e. cc)

  -- likewise for lists of parts
  same_parts : (ps qs : List (Bool × ℕ)) → AllByRecursion Named ps → AllByRecursion Named qs → map numbered ps
      ≡ map numbered qs ↔ map (part_tree (trees nodes)) ps ≡ map (part_tree (trees nodes)) qs
  same_parts [] [] h k = (λ e. refl, λ e. refl)
  same_parts [] (q ∷ qs) h k = (λ e. cc, λ e. cc)
  same_parts (p ∷ ps) [] h k = (λ e. cc, λ e. cc)
  same_parts (p ∷ ps) (q ∷ qs) h k =
      let here = same_part p q h.0 k.0 in
      let rest = same_parts ps qs h.1 k.1 in (
        λ e. λ i. here.0 (ap (λ zs. get_or zs 0 (false, 0)) e) i ∷ rest.0 (ap (drop 1) e) i,
        λ e. λ i. here.1 (ap (λ zs. get_or zs 0 (integer (word 0))) e) i ∷ rest.1 (ap (drop 1) e) i,
      )

  -- each part of a node up to node n is `Named`
  parts_of : (i scope : ℕ) (y : Shape) → i ≤ n → IsShape nodes i scope y → AllByRecursion Named (parts y)
  parts_of i scope y le h = each_listed (λ b m. Named (b, m)) y (each_part (MayName nodes i scope) (λ b m. Named (b, m))
      (λ b m k. (i, scope, le, k)) y (parts_named nodes i scope y h))

  -- shapes have the same key exactly when they have the same tree
  same_shapes : (i j sc sd : ℕ) (y z : Shape) → i ≤ n → j ≤ n → IsShape nodes i sc y → IsShape nodes j sd z →
      key_of cs y ≡ key_of cs z ↔ tree_of (trees nodes) y ≡ tree_of (trees nodes) z
  same_shapes i j sc sd y z li lj p q =
      let t = same_parts (parts y) (parts z) (parts_of i sc y li p) (parts_of j sd z lj q) in (
        λ e. let f = of_one_renamed (number_in cs) (number_in cs) y z e in
            one_tree (trees nodes) (trees nodes) y z f.0 (t.0 f.1),
        λ e. let f = of_one_tree (trees nodes) (trees nodes) y z e in
            one_renamed (number_in cs) (number_in cs) y z f.0 (t.1 f.1),
      )

  -- two nodes up to node n have equal keys exactly when their trees are equal
  pub keys_same : (i j : ℕ) (y z : Node) → i ≤ n → j ≤ n → slice_get nodes i ≡ Some y → slice_get nodes j ≡ Some z →
      key_of cs y.shape ≡ key_of cs z.shape ↔ tree_at nodes i ≡ tree_at nodes j
  keys_same i j y z li lj e f =
      let ti = tree_at-row nodes i y h e in
      let tj = tree_at-row nodes j z h f in
      let s = same_shapes i j y.scope z.scope y.shape z.shape li lj (h.each i y e).shape (h.each j z f).shape in
      (λ k. ti ∙ s.0 k ∙ sym tj, λ k. s.1 (sym ti ∙ k ∙ tj))
