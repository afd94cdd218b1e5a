-- The forms of nodes, under a substitution and with the variables unchanged.
use Rattle.std.proofs.Common.{◌≡◌, ℕ, zero, suc, ◌<◌, true, false, List, [], ◌∷◌, length, slice_get, slice_index_or}
use Rattle.std.proofs.Common.{Some, refl, ap, subst, arith}
use Rattle.ft_static.specs.Expression.{HasVariablesBelow}
use Rattle.ft_static.specs.Form.{Form as Normal, integer_form, memory_form, variable_atom, unchanged, Polynomial}
use Rattle.ft_static.specs.Form.{nought}
use Rattle.ft_static.specs.NodeRules.{AreNodes}
use Rattle.ft_static.specs.NodeTree.{tree_at, trees, integer_at, memory_at}
use Rattle.ft_static.specs.NormalForm.{alone, form_under}
use Rattle.ft_static.proofs.NodeTrees.{tree_fits}
use Rattle.ft_static.proofs.Under.{norm_under_itself}
use Rattle.ft_norm.specs.declared.form.Form.{Form}
use Rattle.ft_norm.specs.Held.{held, polynomials}
use Rattle.ft_types.specs.declared.object.Object.{Object}
use Rattle.ft_typing.specs.Context.{Replacement, integer_form_of, memory_form_of, integer_form_after, memory_form_after}
use Rattle.ft_types.specs.Spellable.{IsNodeIn}
use Rattle.ft_types.proofs.NodesIn.{integer_in, memory_in}
use Rattle.ft_contexts.specs.declared.variables.Variables.{Variables}
use Rattle.ft_contexts.specs.Contexts.{replacement_in, AreOwn}
use Rattle.ft_contexts.proofs.Kept.{polynomial_found, updates_found}

-- under a substitution, an integer node has the form of an integer
pub integer_under : (o : Object) (x : Replacement) (scope n : ℕ) → AreNodes o.nodes → IsNodeIn o.nodes scope false n →
    form_under x.integers x.memory (tree_at o.nodes n) ≡ integer_form (integer_form_after o x n)
unfolding integer_form_after
integer_under o x scope n h k = ap (form_under x.integers x.memory) (integer_in o.nodes scope n h k)

-- under a substitution, a memory node has the form of a memory
pub memory_under : (o : Object) (x : Replacement) (scope n : ℕ) → AreNodes o.nodes → IsNodeIn o.nodes scope true n →
    form_under x.integers x.memory (tree_at o.nodes n) ≡ memory_form (memory_form_after o x n)
unfolding memory_form_after
memory_under o x scope n h k = ap (form_under x.integers x.memory) (memory_in o.nodes scope n h k)

-- the polynomial at an index is that of the form at this index
polynomial_in : (fs : List Normal) (xs : List Form) (i : ℕ) (p : Polynomial) → i < length xs →
    ((f : Form) → slice_get xs i ≡ Some f → held fs f ≡ Some (integer_form p)) →
    slice_index_or (polynomials fs xs) i nought ≡ p
polynomial_in fs [] i p l h = absurd (omega arith)
polynomial_in fs (x ∷ xs) zero p l h = polynomial_found fs x p (h x refl)
polynomial_in fs (x ∷ xs) (suc i) p l h = polynomial_in fs xs i p (omega arith) h

-- with the variables unchanged, an integer node has its own form
pub own_integer : (o : Object) (fs : List Normal) (ints : ℕ) (v : Variables) (n : ℕ) → AreNodes o.nodes →
    AreOwn fs ints v → IsNodeIn o.nodes (length v.integers) false n → integer_form_after o (replacement_in fs v) n
    ≡ integer_form_of o n
unfolding integer_form_after integer_form_of
own_integer o fs ints v n h own k =
    let e = integer_in o.nodes (length v.integers) n h k in
    let w = subst (HasVariablesBelow k.node.scope) e (tree_fits o.nodes n k.node h k.found).1 in
    let u = updates_found fs v.memory unchanged own.memory in
    rw u ((norm_under_itself k.node.scope (polynomials fs v.integers) (λ i l.
    polynomial_in fs v.integers i (alone (variable_atom i)) (omega (arith, k.scope_within)) (own.integers i))).0
    (integer_at (trees o.nodes) n) w)

-- with the variables unchanged, a memory node has its own form
pub own_memory : (o : Object) (fs : List Normal) (ints : ℕ) (v : Variables) (n : ℕ) → AreNodes o.nodes →
    AreOwn fs ints v → IsNodeIn o.nodes (length v.integers) true n → memory_form_after o (replacement_in fs v) n
    ≡ memory_form_of o n
unfolding memory_form_after memory_form_of
own_memory o fs ints v n h own k =
    let e = memory_in o.nodes (length v.integers) n h k in
    let w = subst (HasVariablesBelow k.node.scope) e (tree_fits o.nodes n k.node h k.found).1 in
    let u = updates_found fs v.memory unchanged own.memory in
    rw u ((norm_under_itself k.node.scope (polynomials fs v.integers) (λ i l.
    polynomial_in fs v.integers i (alone (variable_atom i)) (omega (arith, k.scope_within)) (own.integers i))).1
    (memory_at (trees o.nodes) n) w)
