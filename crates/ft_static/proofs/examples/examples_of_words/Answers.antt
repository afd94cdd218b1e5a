use Rattle.std.proofs.Common.{refl}
use Rattle.ft_isa.specs.Words.{apply}
use Rattle.ft_static.proofs.examples.examples_of_words.Goals as goal

pub returns : goal.returns
unfolding apply
returns c = record {
  words_wrap = refl;
  words_differ = refl;
  one_variable = refl;
  two_variables = refl;
}
