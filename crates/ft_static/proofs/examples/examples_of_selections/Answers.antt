use Rattle.std.proofs.Common.{refl}
use Rattle.ft_isa.specs.Words.{apply}
use Rattle.ft_static.proofs.examples.examples_of_selections.Goals as goal

pub returns : goal.returns
unfolding apply
returns c = record {
  at_the_newest = refl;
  past_a_known_difference = refl;
  to_the_end = refl;
  stops_at_the_unknown = refl;
  keeps_the_rest = refl;
  another_address = refl;
}
