use Rattle.ft_static.proofs.Spelled.{cmp_atom_total, cmp_monomial_total, cmp_polynomial_total, cmp_updates_total}
use Rattle.ft_static.proofs.Equal.{equal_atoms, equal_monomials, equal_polynomials, equal_updates}
use Rattle.ft_static.proofs.Lists.{monomial_lists, polynomial_lists, updates_lists}
use Rattle.ft_static.proofs.laws.forms_are_ordered.Goals as goal

pub returns : goal.returns
returns c = record {
  atoms = cmp_atom_total;
  monomials = cmp_monomial_total;
  polynomials = cmp_polynomial_total;
  updates = cmp_updates_total;
  equal_atoms = equal_atoms;
  equal_monomials = equal_monomials;
  equal_polynomials = equal_polynomials;
  equal_updates = equal_updates;
  lists_of_atoms = monomial_lists;
  lists_of_monomials = polynomial_lists;
  lists_of_stores = updates_lists;
}
