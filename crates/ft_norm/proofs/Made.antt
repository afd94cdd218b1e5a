-- The forms made for nodes are those of their trees.
use Rattle.std.proofs.Common.{ℕ, suc, zero, ◌≡◌, ◌+◌, ◌<◌, ◌≤◌, ◌==◌, nat_eq, Bool, true, false, cond, List, map, refl}
use Rattle.std.proofs.Common.{sym, ap, ◌∙◌, subst, arith, Option, Some, slice_get}
use Rattle.std.specs.Option.{unwrap_or}
use Rattle.std.proofs.lemmas.Bool.Decides.{Decides-eqb}
use Rattle.indexmap.specs.IndexMap.{IndexMap, get}
use Rattle.ft_static.specs.Expression.{integer, word}
use Rattle.ft_static.specs.Form.{Form as Normal, Polynomial, Updates, integer_form, memory_form, nought, polynomial_of}
use Rattle.ft_static.specs.Form.{updates_of, unchanged, update, updates, same_polynomial}
use Rattle.ft_static.specs.NormalForm.{norm_upd, form_of, form_under, integer_in, memory_in, updates_or}
use Rattle.ft_static.specs.NodeParts.{EachPart, renamed, is_memory}
use Rattle.ft_static.specs.NodeRules.{AreNodes, IsShape, MayName}
use Rattle.ft_static.specs.NodeTree.{tree_at, trees}
use Rattle.ft_static.specs.declared.node.Node.{Node}
use Rattle.ft_static.specs.declared.node.Shape.{Shape}
use Rattle.ft_static.specs.declared.node.Shape.TheVariants as shape
use Rattle.ft_static.proofs.Denote.{node_form}
use Rattle.ft_static.proofs.NodeTrees.{each_part_both, each_renamed, parts_named}
use Rattle.ft_static.proofs.Under.{get_or-map}
use Rattle.ft_norm.specs.declared.form.Form.{Form}
use Rattle.ft_norm.specs.Held.{held, polynomial_at, updates_at, updates_held, Keeps}
use Rattle.ft_norm.specs.Parts.{AreMade, HasLength, HaveSorts, IsMade, IsOfSort, form_of_parts, number_in}
use Rattle.ft_norm.specs.Parts.{updates_of_parts}
use Rattle.ft_norm.proofs.HeldForms.{integer_from, memory_from, polynomial_found, updates_found}

-- a node that is not a memory has an integer's form
integer_shape : (ps : List Polynomial) (u : Updates) (fs : List Normal) (s : Shape) → is_memory s ≡ false →
    form_of ps u fs s ≡ integer_form (polynomial_of (form_of ps u fs s))
integer_shape ps u fs (shape.Word w) e = refl
integer_shape ps u fs s e = cc

-- a node that is a memory has a memory's form
memory_shape : (ps : List Polynomial) (u : Updates) (fs : List Normal) (s : Shape) → is_memory s ≡ true →
    form_of ps u fs s ≡ memory_form (updates_of (form_of ps u fs s))
memory_shape ps u fs (shape.Word w) e = cc
memory_shape ps u fs s e = cc

-- an `upd` adds at most one update
pub updates-norm_upd : (u : Updates) (p v : Polynomial) → updates (norm_upd u p v) ≤ updates u + 1
updates-norm_upd unchanged p v = omega arith
updates-norm_upd (update a w u) p v = go (same_polynomial a p) refl
  where
    go : (b : Bool) → same_polynomial a p ≡ b → updates (norm_upd (update a w u) p v) ≤ updates (update a w u) + 1
    go true e = rw e (omega arith)
    go false e = rw e (omega arith)

module _ (ps : List Polynomial) (u : Updates) (ns : List Node) (h : AreNodes ns) where
  -- the form of a node's tree
  abbrev pub tree_form : ℕ → Normal
  tree_form k = form_under ps u (tree_at ns k)

  -- the forms of all nodes' trees
  abbrev tree_forms : List Normal
  tree_forms = map (form_under ps u) (trees ns)

  -- the tree of an integer node has an integer's form
  pub integer_tree : (n : ℕ) (x : Node) → slice_get ns n ≡ Some x → is_memory x.shape ≡ false → tree_form n
      ≡ integer_form (polynomial_of (tree_form n))
  integer_tree n x f s = let e = node_form ps u ns n x h f in
      e ∙ (integer_shape ps u tree_forms x.shape s ∙ ap (λ y. integer_form (polynomial_of y)) (sym e))

  -- the tree of a memory node has a memory's form
  pub memory_tree : (n : ℕ) (x : Node) → slice_get ns n ≡ Some x → is_memory x.shape ≡ true → tree_form n
      ≡ memory_form (updates_of (tree_form n))
  memory_tree n x f s = let e = node_form ps u ns n x h f in
      e ∙ (memory_shape ps u tree_forms x.shape s ∙ ap (λ y. memory_form (updates_of y)) (sym e))

  -- each form made so far is that of its node's tree
  pub record Stands (fs : List Normal) (look : ℕ → Option Form) : Type 0 where
    pub each : (j : ℕ) (f : Form) → look j ≡ Some f → held fs f ≡ Some (tree_form j)

  -- this still holds after the list of forms has grown
  pub stands_kept : (fs gs : List Normal) (look : ℕ → Option Form) → Keeps fs gs → Stands fs look → Stands gs look
  stands_kept fs gs look k s = record { each = λ (j : ℕ) (f : Form) e. k.forms_stay f (tree_form j) (s.each j f e) }

  -- this still holds after one more form is made
  pub stands_more : (fs : List Normal) (look more : ℕ → Option Form) (k : ℕ) (x : Form) → Stands fs look → held fs x
      ≡ Some (tree_form k) → ((q : ℕ) → more q ≡ cond (k == q) (Some x) (look q)) → Stands fs more
  stands_more fs look more k x s e m = record { each = λ (j : ℕ) (f : Form) g. go j f (k == j) refl (sym (m j) ∙ g) }
    where
      go : (j : ℕ) (f : Form) (b : Bool) → (k == j) ≡ b → cond (k == j) (Some x) (look j) ≡ Some f → held fs f
          ≡ Some (tree_form j)
      go j f true t g =
          let z : Some x ≡ Some f = sym (ap (λ b. cond b (Some x) (look j)) t) ∙ g in
          let y : x ≡ f = cc in
          ap (held fs) (sym y) ∙ (e ∙ ap (λ q. Some (tree_form q)) ((Decides-eqb k j).0 t))
      go j f false t g = s.each j f (sym (ap (λ b. cond b (Some x) (look j)) t) ∙ g)

  -- the memory of a node is that of its tree
  memory_in_tree : (k scope a : ℕ) → MayName ns k scope true a → memory_in u tree_forms a ≡ updates_of (tree_form a)
  memory_in_tree k scope a m = ap (updates_or u) (get_or-map (form_under ps u) (trees ns) a (integer (word 0))
      ∙ memory_tree a m.node m.found m.sort)

  module _ (fs : List Normal) (look : ℕ → Option Form) (s : Stands fs look) where
    -- the form made for an integer node is that of its tree
    made_integer : (k scope a : ℕ) (f : Form) → MayName ns k scope false a → look a ≡ Some f → held fs f
        ≡ Some (integer_form (integer_in tree_forms a))
    made_integer k scope a f m e =
        let t = integer_tree a m.node m.found m.sort in
        let q : integer_in tree_forms a ≡ polynomial_of (tree_form a) =
        ap polynomial_of (get_or-map (form_under ps u) (trees ns) a (integer (word 0))) in
        s.each a f e ∙ ap Some (t ∙ ap integer_form (sym q))

    -- the form made for a memory node is that of its tree
    made_memory : (k scope a : ℕ) (f : Form) → MayName ns k scope true a → look a ≡ Some f → held fs f
        ≡ Some (memory_form (memory_in u tree_forms a))
    made_memory k scope a f m e = s.each a f e ∙ ap Some (memory_tree a m.node m.found m.sort
        ∙ ap memory_form (sym (memory_in_tree k scope a m)))

  -- the forms made for the parts are of the required sorts
  pub parts_sorts : {S : Type 0} (m : IndexMap ℕ Form S) (fs : List Normal) → Stands fs (get nat_eq m) →
      (k scope : ℕ) (x p : Shape) → IsShape ns k scope x → AreMade m x p → HaveSorts fs p
  parts_sorts m fs s k scope x p i e = subst (HaveSorts fs) (sym e.named) (
    each_renamed (IsOfSort fs) (number_in m) x (each_part_both (MayName ns k scope) (λ b j. IsMade m j)
        (λ b j. IsOfSort fs b (number_in m j)) sorted x (parts_named ns k scope x i) e.found),
    has_length x i,
  )
    where
      sorted : (b : Bool) (j : ℕ) → MayName ns k scope b j → IsMade m j → IsOfSort fs b (number_in m j)
      sorted true j n f = rw f.found (memory_from fs f.form _ (made_memory fs (get nat_eq m) s k scope j f.form n
          f.found))
      sorted false j n f = rw f.found (integer_from fs f.form _ (made_integer fs (get nat_eq m) s k scope j f.form n
          f.found))

      has_length : (y : Shape) → IsShape ns k scope y → HasLength (renamed (number_in m) y)
      has_length (shape.Rem a l) h = h.1
      has_length y h = tt

  -- form i is that of the tree of node j
  abbrev IsSame : List Normal → ℕ → Bool → ℕ → Type 0
  IsSame fs i true j = updates_at fs i ≡ memory_in u tree_forms j
  IsSame fs i false j = polynomial_at fs i ≡ integer_in tree_forms j

  -- the forms made for the parts give the node's form
  pub parts_form : {S : Type 0} (m : IndexMap ℕ Form S) (fs : List Normal) → Stands fs (get nat_eq m) →
      (k scope : ℕ) (x p : Shape) → IsShape ns k scope x → AreMade m x p → form_of_parts ps u fs p
      ≡ form_of ps u tree_forms x
  parts_form m fs s k scope x p i e = ap (form_of_parts ps u fs) e.named ∙ go x (each_part_both (MayName ns k scope)
      (λ b j. IsMade m j) (λ b j. IsSame fs (number_in m j) b j) same x (parts_named ns k scope x i) e.found)
    where
      same : (b : Bool) (j : ℕ) → MayName ns k scope b j → IsMade m j → IsSame fs (number_in m j) b j
      same true j n f = rw f.found (updates_found fs f.form.0 _ (made_memory fs (get nat_eq m) s k scope j f.form n
          f.found))
      same false j n f = rw f.found (polynomial_found fs f.form.0 _ (made_integer fs (get nat_eq m) s k scope j f.form
          n f.found))

      go : (y : Shape) → EachPart (λ b j. IsSame fs (number_in m j) b j) y →
          form_of_parts ps u fs (renamed (number_in m) y) ≡ form_of ps u tree_forms y
      go (shape.Word w) h = refl
      go y h = cc

  -- so the form is that of the node's tree
  pub node_made : {S : Type 0} (m : IndexMap ℕ Form S) (fs : List Normal) → Stands fs (get nat_eq m) →
      (k : ℕ) (x : Node) (p : Shape) → slice_get ns k ≡ Some x → AreMade m x.shape p → form_of_parts ps u fs p
      ≡ tree_form k
  node_made m fs s k x p f e = parts_form m fs s k x.scope x.shape p (h.each k x f).shape e
      ∙ sym (node_form ps u ns k x h f)

  -- a memory node k has at most k updates more than the memory variable
  shape_count : (k scope : ℕ) → ((m : ℕ) → m < k → (x : Node) → slice_get ns m ≡ Some x →
      updates (updates_of (tree_form m)) ≤ updates u + m) → (s : Shape) → IsShape ns k scope s →
      updates (updates_of (form_of ps u tree_forms s)) ≤ updates u + k
  shape_count k scope lower (shape.Upd m a v) i =
      let x = updates-norm_upd (memory_in u tree_forms m) (integer_in tree_forms a) (integer_in tree_forms v) in
      let c = lower m i.0.lower i.0.node i.0.found in
      let e = ap updates (memory_in_tree k scope m i.0) in
      let w = i.0.lower in
      omega (arith, x, c, e, w)
  shape_count k scope lower s i = omega arith

  pub tree_count : (b k : ℕ) → k < b → (x : Node) → slice_get ns k ≡ Some x →
      updates (updates_of (tree_form k)) ≤ updates u + k
  tree_count zero k l x f = absurd (omega arith)
  tree_count (suc b) k l x f = rw (node_form ps u ns k x h f) (shape_count k x.scope (λ m w y g.
      tree_count b m (omega (arith, w, l)) y g) x.shape (h.each k x f).shape)

  -- likewise for a form that stands for the node's tree
  pub held_count : (fs : List Normal) (f : Form) (k : ℕ) (x : Node) → slice_get ns k ≡ Some x → held fs f
      ≡ Some (tree_form k) → updates (updates_held fs f) ≤ updates u + k
  held_count fs f k x g e =
      let w : updates_held fs f ≡ updates_of (tree_form k) =
      ap (λ (o : Option Normal). updates_of (unwrap_or o (integer_form nought))) e in
      rw w (tree_count (suc k) k (omega arith) x g)

  -- likewise for each part
  pub parts_count : {S : Type 0} (m : IndexMap ℕ Form S) (fs : List Normal) → Stands fs (get nat_eq m) →
      (k scope : ℕ) (x p : Shape) → IsShape ns k scope x → AreMade m x p → updates_of_parts fs p ≤ updates u + k
  parts_count m fs s k scope x p i e = rw e.named (go x i e.found)
    where
      go : (y : Shape) → IsShape ns k scope y → EachPart (λ b j. IsMade m j) y →
          updates_of_parts fs (renamed (number_in m) y) ≤ updates u + k
      go (shape.Sel a b) i f =
          let z : updates (updates_at fs (number_in m a)) ≡ updates (updates_of (tree_form a)) = ap updates
          (rw f.0.found (updates_found fs f.0.form.0 _ (made_memory fs (get nat_eq m) s k scope a f.0.form i.0
          f.0.found)) ∙ memory_in_tree k scope a i.0) in
          let c = tree_count (suc a) a (omega arith) i.0.node i.0.found in
          let w = i.0.lower in
          omega (arith, z, c, w)
      go y i f = omega arith
