use Rattle.std.proofs.Common.{refl}
use Rattle.ft_isa.specs.Words.{apply}
use Rattle.ft_static.proofs.examples.examples_of_products.Goals as goal

pub returns : goal.returns
unfolding apply
returns c = record {
  square = refl;
  square_with_one_middle_term = refl;
  degree_4 = refl;
  degree_5 = refl;
  products_64 = refl;
  products_65 = refl;
  degrees_add_up = refl;
  products_72 = refl;
}
