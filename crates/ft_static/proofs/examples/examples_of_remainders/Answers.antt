use Rattle.std.proofs.Common.{refl}
use Rattle.ft_isa.specs.Words.{apply}
use Rattle.ft_static.proofs.examples.examples_of_remainders.Goals as goal

pub returns : goal.returns
unfolding apply
returns c = record {
  of_a_word = refl;
  of_a_difference = refl;
  of_a_sum = refl;
  of_forms = refl;
  another_length = refl;
  of_a_remainder = refl;
  by_one = refl;
  in_a_run = refl;
  in_a_run_at_a_word = refl;
}
