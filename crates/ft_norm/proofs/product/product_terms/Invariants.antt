use Rattle.std.proofs.Common.{ℕ, List, ◌≡◌, ◌≤◌, ◌*◌, drop, length}
use Rattle.ft_static.specs.Form.{Form as Normal, nought}
use Rattle.ft_static.specs.NormalForm.{add_products}
use Rattle.ft_norm.specs.Entries.{polynomial_form, reach_of_terms}
use Rattle.ft_norm.specs.Orders.{AreTerms}
use Rattle.ft_norm.specs.Terms.{terms_of}
use Rattle.ft_norm.proofs.product.product_terms.Given as goal

abbrev pub invariant-loop-i : goal.invariant-loop-i
invariant-loop-i l = record {
  value : (fs : List Normal) → add_products (polynomial_form fs (terms_of l.p)) (polynomial_form fs (terms_of l.q))
      nought ≡ add_products (polynomial_form fs (drop l.i (terms_of l.p))) (polynomial_form fs (terms_of l.q))
      (polynomial_form fs l.sum.items);
  terms : AreTerms l.sum.items;
  reach : (fs : List Normal) (n : ℕ) → reach_of_terms fs (terms_of l.p) ≤ n → reach_of_terms fs (terms_of l.q) ≤ n →
      reach_of_terms fs l.sum.items ≤ n;
  count : length l.sum.items ≤ l.i * length (terms_of l.q);
}
