-- Raised nodes stand for the same trees, and raised code types agree.
use Rattle.std.proofs.Common.{◌≡◌, ℕ, zero, suc, ◌+◌, ◌-◌, ◌<◌, ◌≤◌, Bool, true, false, ◌&&◌, nat_le, List, [], ◌∷◌}
use Rattle.std.proofs.Common.{length, map, take, drop, slice_get, Option, Some, refl, sym, ap, ◌∙◌, subst, arith}
use Rattle.std.specs.Prelude.{slice_range}
use Rattle.std.specs.List.{AllZip, list_all}
use Rattle.std.specs.Option.{option_map, unwrap_or}
use Rattle.std.proofs.lemmas.List.{length-map}
use Rattle.ft_static.specs.Expression.{valuation_after}
use Rattle.ft_static.specs.NodeRules.{MayName, IsShape, AreNodes}
use Rattle.ft_static.specs.NodeTree.{integer_part, memory_part, integer_at, memory_at, tree_of, trees, tree_at}
use Rattle.ft_static.specs.declared.node.Node.{Node}
use Rattle.ft_static.specs.declared.node.Shape.{Shape}
use Rattle.ft_static.proofs.NodeTrees.{each_part, parts_named, tree_of-renamed, tree_at-row}
use Rattle.ft_isa.specs.declared.instr.Subst.{Subst}
use Rattle.ft_isa.proofs.Lists.{all_there}
use Rattle.ft_types.specs.declared.object.Object.{Object}
use Rattle.ft_types.specs.declared.object.CodeType.{CodeType}
use Rattle.ft_types.specs.Objects.{regs_of, queue_of, ints_of_type, memory_of_type, reg_rows, queue_rows, scope_of_node}
use Rattle.ft_types.specs.Objects.{scope_of}
use Rattle.ft_types.specs.Spellable.{IsNodeIn, IsRegRow, IsQueueRow, IsCodeType, IsSpellable}
use Rattle.ft_typing.specs.Context.{replacement, rows_of, integer_form_of}
use Rattle.ft_tolerance.specs.TypedState.{valuation_by}
use Rattle.ft_modules.specs.LikeTypes.{SameInteger, SameMemory, SameRow, SamePair, LikeTypes}
use Rattle.ft_modules.specs.declared.before.Before.{Before}
use Rattle.ft_modules.specs.Linked.{raised_shape, raised_node, raised_row, raised_pair, raised_subst, Change}
use Rattle.ft_modules.proofs.LinkedContexts.{SameSubst}
use Rattle.ft_modules.proofs.LinkedBlocks.{form_same, memory_form_same}
use Rattle.ft_modules.proofs.ModuleParts.{Sits}

-- TREES

-- these nodes are among others, raised and k places further
abbrev pub StandIn : List Node → List Node → ℕ → Type 0
StandIn ns ms k = (n : ℕ) (y : Node) → slice_get ns n ≡ Some y → slice_get ms (k + n) ≡ Some (raised_node k y)

-- a raised shape has the same tree if its parts do
raised_tree : (ns ms : List Node) (k n scope : ℕ) (y : Shape) → IsShape ns n scope y →
    ((m : ℕ) (z : Node) → m < n → slice_get ns m ≡ Some z → tree_at ms (k + m) ≡ tree_at ns m) →
    tree_of (trees ms) (raised_shape k y) ≡ tree_of (trees ns) y
raised_tree ns ms k n scope y p lower = tree_of-renamed (trees ms) (trees ns) (λ m. k + m) y
    (each_part (MayName ns n scope) _ (λ b m h. lower m h.node h.lower h.found) y (parts_named ns n scope y p))

-- a raised node has the same tree, by induction below a bound
tree_below : (ns ms : List Node) (k bound n : ℕ) (y : Node) → AreNodes ns → AreNodes ms → StandIn ns ms k → n < bound →
    slice_get ns n ≡ Some y → tree_at ms (k + n) ≡ tree_at ns n
tree_below ns ms k zero n y a b s lt e = absurd (omega (arith, lt))
tree_below ns ms k (suc bound) n y a b s lt e =
    tree_at-row ms (k + n) (raised_node k y) b (s n y e)
    ∙ raised_tree ns ms k n y.scope y.shape (a.each n y e).shape (λ m z l f.
    tree_below ns ms k bound m z a b s (omega (arith, lt, l)) f)
    ∙ sym (tree_at-row ns n y a e)

-- a raised node stands for the same tree
pub tree_raised : (ns ms : List Node) (k n : ℕ) (y : Node) → AreNodes ns → AreNodes ms → StandIn ns ms k →
    slice_get ns n ≡ Some y → tree_at ms (k + n) ≡ tree_at ns n
tree_raised ns ms k n y a b s e = tree_below ns ms k (suc n) n y a b s (omega arith) e

-- CODE TYPES

-- if a relation holds between each element and its image, it holds between a list and its images
zip_map : {X : Type 0} (R : X → X → Type 0) (f : X → X) (xs : List X) →
    ((n : ℕ) (y : X) → slice_get xs n ≡ Some y → R y (f y)) → AllZip R xs (map f xs)
zip_map R f [] h = tt
zip_map R f (y ∷ xs) h = (h 0 y refl, zip_map R f xs (λ n z e. h (suc n) z e))

-- an element of a list's first n elements is at the same place in the list
get-take : {X : Type 0} (xs : List X) (n k : ℕ) (y : X) → slice_get (take n xs) k ≡ Some y → slice_get xs k ≡ Some y
get-take [] zero k y e = cc
get-take [] (suc n) k y e = cc
get-take (z ∷ xs) zero k y e = cc
get-take (z ∷ xs) (suc n) zero y e = e
get-take (z ∷ xs) (suc n) (suc k) y e = get-take xs n k y e

-- element k of the list without its first `a` elements is element `a` + k of the list
pub get-drop : {X : Type 0} (xs : List X) (a k : ℕ) → slice_get (drop a xs) k ≡ slice_get xs (a + k)
get-drop xs zero k = ap (slice_get xs) (omega arith)
get-drop [] (suc a) k = refl
get-drop (y ∷ xs) (suc a) k = get-drop xs a k ∙ (let e : suc (a + k) ≡ suc a + k = omega arith in
    ap (slice_get (y ∷ xs)) e)

-- element j of a slice that begins at `a` is element `a` + j of the list
pub range_get : {X : Type 0} (xs : List X) (a b j : ℕ) (y : X) → slice_get (slice_range xs a b) j ≡ Some y →
    slice_get xs (a + j) ≡ Some y
range_get xs a b j y e = sym (get-drop xs a j) ∙ get-take (drop a xs) (b - a) j y e

module _ (o x : Object) (k : Before) (cs : List Change) (spelled : IsSpellable o) (nodes : AreNodes x.nodes)
    (s : Sits o x k cs) where
  -- a node that may be named, raised, has the same tree
  pub named_tree : (scope : ℕ) (b : Bool) (bound n : ℕ) → MayName o.nodes bound scope b n →
      tree_at x.nodes (k.nodes + n) ≡ tree_at o.nodes n
  named_tree scope b bound n h = tree_raised o.nodes x.nodes k.nodes n h.node spelled.nodes nodes s.nodes h.found

  -- the node of an integer, raised, stands for the same integer
  pub same_integer : (scope bound n : ℕ) → MayName o.nodes bound scope false n → SameInteger o x n (k.nodes + n)
  same_integer scope bound n h = ap integer_part (sym (named_tree scope false bound n h))

  -- the node of a memory, raised, stands for the same memory
  pub same_memory : (scope bound n : ℕ) → MayName o.nodes bound scope true n → SameMemory o x n (k.nodes + n)
  same_memory scope bound n h = ap memory_part (sym (named_tree scope true bound n h))

  -- a node that may be named, raised, has the same scope
  pub same_scope : (scope : ℕ) (b : Bool) (bound n : ℕ) → MayName o.nodes bound scope b n → scope_of o n
      ≡ scope_of x (k.nodes + n)
  same_scope scope b bound n h = ap (λ (y : Option Node). unwrap_or (option_map scope_of_node y) 0) h.found
      ∙ ap (λ (y : Option Node). unwrap_or (option_map scope_of_node y) 0) (sym (s.nodes n h.node h.found))

  -- a code type agrees with its raised version
  pub like_raised : (t : ℕ) (y : CodeType) → slice_get o.types t ≡ Some y → LikeTypes o t x (k.types + t)
  like_raised t y e =
      let f = s.types t y e in
      let is : IsCodeType (length o.types) o.nodes y =
      all_there (IsCodeType (length o.types) o.nodes) o.types t y spelled.types e in
      record {
        ints = ap (λ (z : Option CodeType). unwrap_or (option_map ints_of_type z) 0) e
            ∙ ap (λ (z : Option CodeType). unwrap_or (option_map ints_of_type z) 0) (sym f);
        regs = subst (λ (z : Option CodeType). AllZip (SameRow o x) (unwrap_or (option_map regs_of z) [])
            (reg_rows x (k.types + t))) (sym e)
            (subst (λ (z : Option CodeType). AllZip (SameRow o x) y.regs (unwrap_or (option_map regs_of z) [])) (sym f)
            (zip_map (SameRow o x) (raised_row k.nodes) y.regs (λ n r g. record {
              reg = refl;
              colour = refl;
              basic = refl;
              tree = same_integer y.ints (length o.nodes) r.expr
                  (all_there (IsRegRow (length o.types) o.nodes y.ints) y.regs n r is.regs g).expr;
            })));
        queue = subst (λ (z : Option CodeType). AllZip (SamePair o x) (unwrap_or (option_map queue_of z) [])
            (queue_rows x (k.types + t))) (sym e)
            (subst (λ (z : Option CodeType). AllZip (SamePair o x) y.queue (unwrap_or (option_map queue_of z) []))
            (sym f)
            (zip_map (SamePair o x) (raised_pair k.nodes) y.queue (λ n r g.
            let q = all_there (IsQueueRow o.nodes y.ints) y.queue n r is.queue g in
            record {
              address = same_integer y.ints (length o.nodes) r.0 q.address;
              value = same_integer y.ints (length o.nodes) r.1 q.value;
            })));
        memory = (λ i. memory_at (trees o.nodes) (unwrap_or (option_map memory_of_type (e i)) 0))
            ∙ same_memory y.ints (length o.nodes) y.memory is.memory
            ∙ (λ i. memory_at (trees x.nodes) (unwrap_or (option_map memory_of_type (sym f i)) 0));
      }

  -- SUBSTITUTIONS

  -- the node of an integer, raised, has the same form
  form_raised : (n : ℕ) → IsNodeIn o.nodes 128 false n → integer_form_of o n ≡ integer_form_of x (k.nodes + n)
  form_raised n h = form_same o x n (k.nodes + n) (same_integer 128 (length o.nodes) n h)

  -- the number of a node of the module, raised
  abbrev raise : ℕ → ℕ
  raise n = k.nodes + n

  -- the rows of a substitution, raised, have the same forms
  forms_raised : (ns : List ℕ) → ((j n : ℕ) → slice_get ns j ≡ Some n → IsNodeIn o.nodes 128 false n) →
      map (integer_form_of o) ns ≡ map (integer_form_of x) (map raise ns)
  forms_raised [] h = refl
  forms_raised (n ∷ ns) h = λ i. form_raised n (h 0 n refl) i ∷ forms_raised ns (λ j m e. h (suc j) m e) i

  -- they have the same trees
  trees_raised : (ns : List ℕ) → ((j n : ℕ) → slice_get ns j ≡ Some n → IsNodeIn o.nodes 128 false n) →
      map (integer_at (trees o.nodes)) ns ≡ map (integer_at (trees x.nodes)) (map raise ns)
  trees_raised [] h = refl
  trees_raised (n ∷ ns) h = λ i. same_integer 128 (length o.nodes) n (h 0 n refl) i ∷ trees_raised ns (λ j m e.
      h (suc j) m e) i

  -- their scopes pass the same tests
  scopes_raised : (b : ℕ) (ns : List ℕ) → ((j n : ℕ) → slice_get ns j ≡ Some n → IsNodeIn o.nodes 128 false n) →
      list_all (λ n. nat_le (scope_of o n) b) ns ≡ list_all (λ n. nat_le (scope_of x n) b) (map raise ns)
  scopes_raised b [] h = refl
  scopes_raised b (n ∷ ns) h = λ i. nat_le (same_scope 128 false (length o.nodes) n (h 0 n refl) i) b
      && scopes_raised b ns (λ j m e. h (suc j) m e) i

  -- a raised substitution has the same effect
  pub subst_raised : (u : Subst) → u.first ≤ u.past → u.past ≤ length o.substs → IsNodeIn o.nodes 128 true u.memory →
      SameSubst o x u (raised_subst k u)
  unfolding replacement valuation_by
  subst_raised u le few memory =
      let rows : rows_of x (raised_subst k u) ≡ map raise (rows_of o u) = s.substs u.first u.past le few in
      let each : (j n : ℕ) → slice_get (rows_of o u) j ≡ Some n → IsNodeIn o.nodes 128 false n = λ j n e.
      all_there (IsNodeIn o.nodes 128 false) o.substs (u.first + j) n spelled.substs
      (range_get o.substs u.first u.past j n e) in
      record {
        forms = λ i. record {
          integers = (forms_raised (rows_of o u) each ∙ ap (map (integer_form_of x)) (sym rows)) i;
          memory = memory_form_same o x u.memory (k.nodes + u.memory) (same_memory 128 (length o.nodes) u.memory memory)
              i;
        };
        count = sym (length-map (rows_of o u) raise) ∙ ap (λ (ns : List ℕ). length ns) (sym rows);
        scopes = λ b. scopes_raised b (rows_of o u) each
            ∙ ap (λ (ns : List ℕ). list_all (λ n. nat_le (scope_of x n) b) ns) (sym rows);
        memory_scope = same_scope 128 true (length o.nodes) u.memory memory;
        values = λ v. λ i. valuation_after ((trees_raised (rows_of o u) each
            ∙ ap (map (integer_at (trees x.nodes))) (sym rows)) i) (same_memory 128 (length o.nodes) u.memory memory i)
            v;
      }
