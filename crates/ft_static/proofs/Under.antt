-- Forms after a substitution: what they denote, whose forms they are, and the forms of numbered nodes.
use Rattle.std.proofs.Common.{ℕ, suc, zero, ◌≡◌, ◌<◌, List, [], ◌∷◌, ◌++◌, get_or, map, slice_index_or, refl, sym, ap}
use Rattle.std.proofs.Common.{◌∙◌, subst}
use Rattle.std.proofs.lemmas.List.{map-append}
use Rattle.ft_isa.specs.Words.{IsWord}
use Rattle.ft_static.specs.Expression.{Integer, Memory, Expression, word, variable, memory_variable, integer, memory}
use Rattle.ft_static.specs.Expression.{Valuation, value, memory_value, IsLawful, IsWithin, IsMemoryWithin, substitute}
use Rattle.ft_static.specs.Expression.{substitute_memory, valuation_after}
use Rattle.ft_static.specs.NodeTree.{integer_part, memory_part, integer_at, memory_at, tree_of, trees_onto}
use Rattle.ft_static.specs.Form.{polynomial_of, Polynomial, Updates, variable_atom, nought, unchanged, value_polynomial}
use Rattle.ft_static.specs.Form.{valuation_under}
use Rattle.ft_static.specs.NormalForm.{alone, norm_integer, norm_memory, norm_under, norm_memory_under, form_under}
use Rattle.ft_static.specs.NormalForm.{updates_or, integer_in, memory_in, form_of, forms_of_nodes}
use Rattle.ft_static.specs.declared.node.Node.{Node}
use Rattle.ft_static.specs.declared.node.Shape.{Shape}
use Rattle.ft_static.specs.declared.node.Shape.TheVariants as shape
use Rattle.ft_static.proofs.NodeTrees.{OfAll, OfMemoryParts, OfParts, by_parts, by_parts_where}
use Rattle.ft_static.proofs.Sums.{value_polynomial_is_word, value_updates_are_words}

-- looking up an element of a mapped list, with the image of a default as the default, gives the image of the element
pub get_or-map : {A B : Type 0} (f : A → B) (xs : List A) (k : ℕ) (d : A) → get_or (map f xs) k (f d)
    ≡ f (get_or xs k d)
get_or-map f [] k d = refl
get_or-map f (x ∷ xs) zero d = refl
get_or-map f (x ∷ xs) (suc k) d = get_or-map f xs k d

-- what is substituted for the variables
module _ (es : List Integer) (m : Memory) where
  abbrev pub HasForm : Integer → Type 0
  HasForm e = norm_integer (substitute e es m) ≡ norm_under e (map norm_integer es) (norm_memory m)

  abbrev pub MemoryHasForm : Memory → Type 0
  MemoryHasForm k = norm_memory (substitute_memory k es m) ≡ norm_memory_under k (map norm_integer es) (norm_memory m)

  -- the form of a substituted expression is the form of the expression under the substituted forms
  pub norm-substitute : OfAll HasForm MemoryHasForm
  norm-substitute = by_parts HasForm MemoryHasForm whole stored
    where
      whole : (e : Integer) → OfParts HasForm MemoryHasForm e → HasForm e
      whole (variable i) h = sym (get_or-map norm_integer es i (word 0))
      whole e h = cc

      stored : (k : Memory) → OfMemoryParts HasForm MemoryHasForm k → MemoryHasForm k
      stored memory_variable h = refl
      stored k h = cc

  module _ (s : Valuation) where
    abbrev pub HasValue : Integer → Type 0
    HasValue e = value (substitute e es m) s ≡ value e (valuation_after es m s)

    abbrev pub MemoryHasValue : Memory → Type 0
    MemoryHasValue k = memory_value (substitute_memory k es m) s ≡ memory_value k (valuation_after es m s)

    -- a substituted expression denotes the value that the expression has in the valuation after the substitution
    pub value-substitute : OfAll HasValue MemoryHasValue
    value-substitute = by_parts HasValue MemoryHasValue whole stored
      where
        whole : (e : Integer) → OfParts HasValue MemoryHasValue e → HasValue e
        whole (variable i) h = sym (get_or-map (λ (e : Integer). value e s) es i (word 0))
        whole e h = cc

        stored : (k : Memory) → OfMemoryParts HasValue MemoryHasValue k → MemoryHasValue k
        stored memory_variable h = refl
        stored k h = cc

-- the valuation under forms is lawful
pub valuation_under-lawful : (ps : List Polynomial) (u : Updates) (s : Valuation) → IsLawful s →
    IsLawful (valuation_under ps u s)
valuation_under-lawful ps u s lawful = record {
  integers = λ i. subst IsWord (sym (get_or-map (λ (p : Polynomial). value_polynomial p s) ps i nought))
      (value_polynomial_is_word (get_or ps i nought) s);
  memory = λ a. value_updates_are_words u s lawful a;
}

module _ (n : ℕ) (ps : List Polynomial) (own : (i : ℕ) → i < n → slice_index_or ps i nought ≡ alone (variable_atom i))
  where
    abbrev pub IsOwn : Integer → Type 0
    IsOwn e = norm_under e ps unchanged ≡ norm_integer e

    abbrev pub MemoryIsOwn : Memory → Type 0
    MemoryIsOwn m = norm_memory_under m ps unchanged ≡ norm_memory m

    -- under the variables' own forms, an expression has its normal form
    pub norm_under_itself : OfAll (λ e. IsWithin n e → IsOwn e) (λ m. IsMemoryWithin n m → MemoryIsOwn m)
    norm_under_itself = by_parts_where (IsWithin n) IsOwn (IsMemoryWithin n) MemoryIsOwn split split_memory whole stored
      where
        split : (e : Integer) → IsWithin n e → OfParts (IsWithin n) (IsMemoryWithin n) e
        split (variable i) h = tt
        split e h = h

        split_memory : (m : Memory) → IsMemoryWithin n m → OfMemoryParts (IsWithin n) (IsMemoryWithin n) m
        split_memory memory_variable h = h
        split_memory m h = h

        whole : (e : Integer) → IsWithin n e → OfParts IsOwn MemoryIsOwn e → IsOwn e
        whole (variable i) k h = own i k
        whole e k h = cc

        stored : (m : Memory) → IsMemoryWithin n m → OfMemoryParts IsOwn MemoryIsOwn m → MemoryIsOwn m
        stored memory_variable k h = refl
        stored m k h = cc

-- the polynomial of node n, taken from the forms of the nodes' trees, is the form of node n's integer
integer_in-map : (ps : List Polynomial) (u : Updates) (ts : List Expression) (n : ℕ) →
    integer_in (map (form_under ps u) ts) n ≡ norm_under (integer_at ts n) ps u
integer_in-map ps u ts n = ap polynomial_of (get_or-map (form_under ps u) ts n (integer (word 0)))
    ∙ part (get_or ts n (integer (word 0)))
  where
    part : (t : Expression) → polynomial_of (form_under ps u t) ≡ norm_under (integer_part t) ps u
    part (integer e) = refl
    part (memory m) = refl

-- likewise for the updates of node n
memory_in-map : (ps : List Polynomial) (u : Updates) (ts : List Expression) (n : ℕ) →
    memory_in u (map (form_under ps u) ts) n ≡ norm_memory_under (memory_at ts n) ps u
memory_in-map ps u ts n = ap (updates_or u) (get_or-map (form_under ps u) ts n (integer (word 0)))
    ∙ part (get_or ts n (integer (word 0)))
  where
    part : (t : Expression) → updates_or u (form_under ps u t) ≡ norm_memory_under (memory_part t) ps u
    part (integer e) = refl
    part (memory m) = refl

-- the form of a node from the forms of its parts is the form of its tree
pub form_of-map : (ps : List Polynomial) (u : Updates) (ts : List Expression) (x : Shape) →
    form_of ps u (map (form_under ps u) ts) x ≡ form_under ps u (tree_of ts x)
form_of-map ps u ts (shape.Word w) = refl
form_of-map ps u ts (shape.Var i) = refl
form_of-map ps u ts shape.Memory = refl
form_of-map ps u ts x = simp (integer_in-map, memory_in-map)

-- the forms of nodes, in order, are those of their trees
pub forms_of_nodes-trees : (ps : List Polynomial) (u : Updates) (ts : List Expression) (ns : List Node) →
    forms_of_nodes ps u (map (form_under ps u) ts) ns ≡ map (form_under ps u) (trees_onto ts ns)
forms_of_nodes-trees ps u ts [] = refl
forms_of_nodes-trees ps u ts (n ∷ ns) =
    let e : map (form_under ps u) ts ++ form_of ps u (map (form_under ps u) ts) n.shape ∷ []
    ≡ map (form_under ps u) (ts ++ tree_of ts n.shape ∷ []) = ap (λ f. map (form_under ps u) ts
    ++ f ∷ []) (form_of-map ps u ts n.shape) ∙ sym (map-append (form_under ps u) ts (tree_of ts n.shape ∷ [])) in
    ap (λ fs. forms_of_nodes ps u fs ns) e ∙ forms_of_nodes-trees ps u (ts ++ tree_of ts n.shape ∷ []) ns
