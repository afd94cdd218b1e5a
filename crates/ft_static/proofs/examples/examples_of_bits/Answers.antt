use Rattle.std.proofs.Common.{refl}
use Rattle.ft_isa.specs.Words.{apply}
use Rattle.ft_static.proofs.examples.examples_of_bits.Goals as goal

pub returns : goal.returns
unfolding apply
returns c = record {
  and_of_words = refl;
  or_of_words = refl;
  xor_of_words = refl;
  left = refl;
  left_out_of_a_word = refl;
  left_by_64 = refl;
  right = refl;
  right_by_64 = refl;
  an_atom = refl;
  bits_of_forms = refl;
  turned_round = refl;
  with_itself = refl;
  left_by_one = refl;
  right_by_none = refl;
}
