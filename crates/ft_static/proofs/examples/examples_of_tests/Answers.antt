use Rattle.std.proofs.Common.{refl}
use Rattle.ft_isa.specs.Words.{apply}
use Rattle.ft_static.proofs.examples.examples_of_tests.Goals as goal

pub returns : goal.returns
unfolding apply
returns c = record {
  less = refl;
  not_less = refl;
  less_of_forms = refl;
  less_than_itself = refl;
  equal = refl;
  not_equal = refl;
  equal_differences = refl;
  equal_to_itself = refl;
  equal_turned_round = refl;
}
