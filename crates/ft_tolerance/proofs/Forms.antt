-- What the forms of an object's nodes denote, before and after a transfer.
use Rattle.std.proofs.Common.{◌≡◌, inl, inr, ℕ, ◌+◌, List, [], ◌∷◌, ◌++◌, length, map, refl, sym, ap, ◌∙◌, subst, lit<}
use Rattle.std.proofs.Common.{arith}
use Rattle.std.proofs.lemmas.List.{get_or_past, length_push}
use Rattle.std.proofs.lemmas.Option.{slice_get_cases}
use Rattle.ft_isa.specs.declared.instr.Subst.{Subst}
use Rattle.ft_static.specs.Expression.{Integer, Expression, integer, memory, word, Valuation, IsLawful, AreWords}
use Rattle.ft_static.specs.Expression.{AreWordsOfMemory, HasWords, value, memory_value}
use Rattle.ft_static.specs.Form.{Polynomial, value_polynomial, value_updates, valuation_under}
use Rattle.ft_static.specs.NodeRules.{AreNodes}
use Rattle.ft_static.specs.NodeTree.{trees, trees_onto, tree_of, integer_part, memory_part, integer_at, memory_at}
use Rattle.ft_static.specs.NodeTree.{tree_at}
use Rattle.ft_static.specs.declared.node.Node.{Node}
use Rattle.ft_static.proofs.NodeTrees.{tree_fits}
use Rattle.ft_static.proofs.FormRows.{norm_value, value_norm_memory, value_under}
use Rattle.ft_static.proofs.Under.{valuation_under-lawful}
use Rattle.ft_types.specs.declared.object.Object.{Object}
use Rattle.ft_typing.specs.Context.{integer_form_of, memory_form_of, integer_form_after, memory_form_after, rows_of}
use Rattle.ft_typing.specs.Context.{replacement}
use Rattle.ft_tolerance.specs.TypedState.{valuation_by}

-- there are as many trees as nodes
length-trees_onto : (ts : List Expression) (ns : List Node) → length (trees_onto ts ns) ≡ length ts + length ns
length-trees_onto ts [] = omega arith
length-trees_onto ts (n ∷ ns) = let l = length_push ts (tree_of ts n.shape) in
    let h = length-trees_onto (ts ++ tree_of ts n.shape ∷ []) ns in omega arith

-- for any number n, the numbers in the tree of node n are words
has_words : (nodes : List Node) (n : ℕ) → AreNodes nodes → HasWords (tree_at nodes n)
has_words nodes n h = elim (slice_get_cases nodes n).1 [
  | inl s ↦ (tree_fits nodes n s.0 h s.2).0
  | inr s ↦ let l = length-trees_onto [] nodes in subst HasWords
      (sym (get_or_past (trees nodes) n (integer (word 0)) (omega arith))) (lit< tt)
]

-- the numbers in either part of a tree are words
integer_words : (e : Expression) → HasWords e → AreWords (integer_part e)
integer_words (integer e) h = h
integer_words (memory m) h = lit< tt

memory_words : (e : Expression) → HasWords e → AreWordsOfMemory (memory_part e)
memory_words (integer e) h = tt
memory_words (memory m) h = h

-- the form of a node denotes the same value as its tree
pub integer_form_denotes : (o : Object) (n : ℕ) (v : Valuation) → AreNodes o.nodes → IsLawful v →
    value_polynomial (integer_form_of o n) v ≡ value (integer_at (trees o.nodes) n) v
unfolding integer_form_of
integer_form_denotes o n v h lawful = norm_value (integer_at (trees o.nodes) n) v lawful
    (integer_words (tree_at o.nodes n) (has_words o.nodes n h))

pub memory_form_denotes : (o : Object) (n : ℕ) (v : Valuation) → AreNodes o.nodes → IsLawful v →
    value_updates (memory_form_of o n) v ≡ memory_value (memory_at (trees o.nodes) n) v
unfolding memory_form_of
memory_form_denotes o n v h lawful = value_norm_memory (memory_at (trees o.nodes) n) v lawful
    (memory_words (tree_at o.nodes n) (has_words o.nodes n h))

-- the forms of rows denote the same values as their trees
rows_denote : (o : Object) (rows : List ℕ) (v : Valuation) → AreNodes o.nodes → IsLawful v →
    map (λ (p : Polynomial). value_polynomial p v) (map (integer_form_of o) rows)
    ≡ map (λ (e : Integer). value e v) (map (integer_at (trees o.nodes)) rows)
rows_denote o [] v h lawful = refl
rows_denote o (n ∷ ns) v h lawful = λ i. integer_form_denotes o n v h lawful i ∷ rows_denote o ns v h lawful i

-- the valuation under the replacement's forms is the one after the transfer
under_is_by : (o : Object) (u : Subst) (v : Valuation) → AreNodes o.nodes → IsLawful v →
    valuation_under (replacement o u).integers (replacement o u).memory v ≡ valuation_by o u v
unfolding replacement valuation_by
under_is_by o u v h lawful = λ i. record {
  integers = rows_denote o (rows_of o u) v h lawful i;
  memory = memory_form_denotes o u.memory v h lawful i;
}

-- the valuation after the transfer is lawful
pub by_lawful : (o : Object) (u : Subst) (v : Valuation) → AreNodes o.nodes → IsLawful v → IsLawful (valuation_by o u v)
by_lawful o u v h lawful = subst IsLawful (under_is_by o u v h lawful)
    (valuation_under-lawful (replacement o u).integers (replacement o u).memory v lawful)

-- a node's form after a replacement denotes, before the transfer, what the node's own form denotes after it
pub after_denotes : (o : Object) (u : Subst) (n : ℕ) (v : Valuation) → AreNodes o.nodes → IsLawful v →
    value_polynomial (integer_form_after o (replacement o u) n) v
    ≡ value_polynomial (integer_form_of o n) (valuation_by o u v)
unfolding integer_form_after
after_denotes o u n v h lawful =
    (value_under (replacement o u).integers (replacement o u).memory v lawful).0 (integer_at (trees o.nodes) n)
    (integer_words (tree_at o.nodes n) (has_words o.nodes n h))
    ∙ ap (value (integer_at (trees o.nodes) n)) (under_is_by o u v h lawful)
    ∙ sym (integer_form_denotes o n (valuation_by o u v) h (by_lawful o u v h lawful))

pub memory_after_denotes : (o : Object) (u : Subst) (n : ℕ) (v : Valuation) → AreNodes o.nodes → IsLawful v →
    value_updates (memory_form_after o (replacement o u) n) v ≡ value_updates (memory_form_of o n) (valuation_by o u v)
unfolding memory_form_after
memory_after_denotes o u n v h lawful =
    (value_under (replacement o u).integers (replacement o u).memory v lawful).1 (memory_at (trees o.nodes) n)
    (memory_words (tree_at o.nodes n) (has_words o.nodes n h))
    ∙ ap (memory_value (memory_at (trees o.nodes) n)) (under_is_by o u v h lawful)
    ∙ sym (memory_form_denotes o n (valuation_by o u v) h (by_lawful o u v h lawful))
