-- An expression of either sort denotes the same value as its form, and a node's form is computed from those of its
-- parts.
use Rattle.std.proofs.Common.{◌≡◌, ◌↔◌, true, ℕ, List, map, Some, slice_get, sym, ap, ◌∙◌}
use Rattle.ft_static.specs.Expression.{Expression, integer, memory, Valuation, IsLawful, HasWords, denotation}
use Rattle.ft_static.specs.Expression.{denoted_word, denoted_memory}
use Rattle.ft_static.specs.Form.{Polynomial, Updates, integer_form, memory_form, polynomial_of, updates_of}
use Rattle.ft_static.specs.Form.{form_denotation}
use Rattle.ft_static.specs.NodeRules.{AreNodes}
use Rattle.ft_static.specs.NodeTree.{tree_at, trees}
use Rattle.ft_static.specs.NormalForm.{norm, norm_integer, norm_memory, same, form_of, form_under}
use Rattle.ft_static.specs.declared.node.Node.{Node}
use Rattle.ft_static.proofs.Equal.{equal_polynomials, equal_updates}
use Rattle.ft_static.proofs.NodeTrees.{tree_at-row}
use Rattle.ft_static.proofs.FormRows.{norm_value, value_norm_memory}
use Rattle.ft_static.proofs.Under.{form_of-map}

-- a form denotes the same value as its expression
pub norm_denotes : (e : Expression) (s : Valuation) → IsLawful s → HasWords e → form_denotation (norm e) s
    ≡ denotation e s
norm_denotes (integer e) s lawful h = ap denoted_word (norm_value e s lawful h)
norm_denotes (memory m) s lawful h = ap denoted_memory (value_norm_memory m s lawful h)

-- two expressions are the same exactly when their forms are equal
pub same_forms : (a b : Expression) → same a b ≡ true ↔ norm a ≡ norm b
same_forms (integer a) (integer b) =
    let k = equal_polynomials (norm_integer a) (norm_integer b) in
    (λ e. ap integer_form (k.0 e), λ e. k.1 (ap polynomial_of e))
same_forms (memory a) (memory b) =
    let k = equal_updates (norm_memory a) (norm_memory b) in
    (λ e. ap memory_form (k.0 e), λ e. k.1 (ap updates_of e))
same_forms (integer a) (memory b) = (λ e. cc, λ e. cc)
same_forms (memory a) (integer b) = (λ e. cc, λ e. cc)

-- expressions that are the same denote the same value
pub same_denotes : (a b : Expression) (s : Valuation) → IsLawful s → HasWords a → HasWords b → same a b ≡ true →
    denotation a s ≡ denotation b s
same_denotes a b s lawful h k e = sym (norm_denotes a s lawful h)
    ∙ (ap (λ f. form_denotation f s) ((same_forms a b).0 e) ∙ norm_denotes b s lawful k)

-- the form of a node's tree is the form built for its shape from the forms of its parts
pub node_form : (ps : List Polynomial) (u : Updates) (nodes : List Node) (n : ℕ) (node : Node) → AreNodes nodes →
    slice_get nodes n ≡ Some node → form_under ps u (tree_at nodes n)
    ≡ form_of ps u (map (form_under ps u) (trees nodes)) node.shape
node_form ps u nodes n node h f = ap (form_under ps u) (tree_at-row nodes n node h f)
    ∙ sym (form_of-map ps u (trees nodes) node.shape)
