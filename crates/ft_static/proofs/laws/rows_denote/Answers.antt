use Rattle.std.proofs.Common.{refl, ◌∙◌}
use Rattle.std.proofs.Math.Nat.{mod-eq_of_lt}
use Rattle.ft_static.specs.Form.{variable_atom}
use Rattle.ft_static.proofs.Sums.{value_alone, value_polynomial_is_word, value_updates_are_words}
use Rattle.ft_static.proofs.FormsDenote.{value_constant}
use Rattle.ft_static.proofs.FormRows.{value_op, value_rem, value_sel, value_upd}
use Rattle.ft_static.proofs.laws.rows_denote.Goals as goal

pub returns : goal.returns
returns c = record {
  words = λ w s h. value_constant w s ∙ mod-eq_of_lt h;
  variables = λ i s lawful. value_alone (variable_atom i) s (lawful.integers i);
  operations = value_op;
  selections = value_sel;
  remainders = value_rem;
  updates = value_upd;
  memory_variables = λ s. refl;
  words_only = value_polynomial_is_word;
  memories_of_words = λ u s a lawful. value_updates_are_words u s lawful a;
}
