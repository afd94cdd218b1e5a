use Rattle.std.proofs.Common.{ℕ, ◌≡◌, ◌≤◌, List, drop}
use Rattle.ft_static.specs.Form.{Form as Normal}
use Rattle.ft_static.specs.NormalForm.{total}
use Rattle.ft_norm.specs.Entries.{polynomial_form, reach_of_terms}
use Rattle.ft_norm.specs.Orders.{AreTerms}
use Rattle.ft_norm.specs.Terms.{terms_of}
use Rattle.ft_norm.proofs.sum.add_terms.Given as goal

abbrev pub invariant-loop-i : goal.invariant-loop-i
invariant-loop-i l = record {
  value : (fs : List Normal) → total (polynomial_form fs (terms_of l.terms)) (polynomial_form fs l.initial.sum.items)
      ≡ total (polynomial_form fs (drop l.i (terms_of l.terms))) (polynomial_form fs l.sum.items);
  terms : AreTerms l.sum.items;
  reach : (fs : List Normal) (n : ℕ) → reach_of_terms fs l.initial.sum.items ≤ n →
      reach_of_terms fs (terms_of l.terms) ≤ n → reach_of_terms fs l.sum.items ≤ n;
}
