use Rattle.ft_static.proofs.Coefficients.{coefficient_products, coefficient_total, same_coefficients}
use Rattle.ft_static.proofs.Counts.{count_join}
use Rattle.ft_static.proofs.laws.forms_are_known_by_coefficients.Goals as goal

pub returns : goal.returns
returns c = record {
  sum = coefficient_total;
  product = coefficient_products;
  known = same_coefficients;
  counts = count_join;
}
