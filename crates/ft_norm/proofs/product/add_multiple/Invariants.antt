use Rattle.std.proofs.Common.{ℕ, List, ◌≡◌, ◌≤◌, ◌+◌, drop, length}
use Rattle.ft_static.specs.Form.{Form as Normal}
use Rattle.ft_static.specs.NormalForm.{add_multiple as sum_with_multiple}
use Rattle.ft_norm.specs.Entries.{monomial_form, polynomial_form, reach_of_atoms, reach_of_terms}
use Rattle.ft_norm.specs.Orders.{AreTerms}
use Rattle.ft_norm.specs.Terms.{terms_of}
use Rattle.ft_norm.proofs.product.add_multiple.Given as goal

abbrev pub invariant-loop-i : goal.invariant-loop-i
invariant-loop-i l = record {
  value : (fs : List Normal) → sum_with_multiple (monomial_form fs l.t.atoms) l.t.coefficient
      (polynomial_form fs (terms_of l.terms)) (polynomial_form fs l.initial.sum.items)
      ≡ sum_with_multiple (monomial_form fs l.t.atoms) l.t.coefficient
      (polynomial_form fs (drop l.i (terms_of l.terms))) (polynomial_form fs l.sum.items);
  terms : AreTerms l.sum.items;
  reach : (fs : List Normal) (n : ℕ) → reach_of_terms fs l.initial.sum.items ≤ n → reach_of_atoms fs l.t.atoms ≤ n →
      reach_of_terms fs (terms_of l.terms) ≤ n → reach_of_terms fs l.sum.items ≤ n;
  count : length l.sum.items ≤ length l.initial.sum.items + l.i;
}
