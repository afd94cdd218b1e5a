use Rattle.std.proofs.Common.{refl}
use Rattle.ft_isa.specs.Words.{apply}
use Rattle.ft_static.proofs.examples.examples_of_sums.Goals as goal

pub returns : goal.returns
unfolding apply
returns c = record {
  order_of_terms = refl;
  another_term = refl;
  halves_vanish = refl;
  quarters_stay = refl;
  sum_less_a_term = refl;
  difference_turned_round = refl;
  sum_of_64 = refl;
  sum_of_65 = refl;
  zeros_are_dropped_first = refl;
  sum_less_itself = refl;
  difference_of_65 = refl;
}
