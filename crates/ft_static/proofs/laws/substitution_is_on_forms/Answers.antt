use Rattle.ft_static.proofs.Under.{norm-substitute, value-substitute, valuation_under-lawful}
use Rattle.ft_static.proofs.FormRows.{value_under}
use Rattle.ft_static.proofs.Under.{norm_under_itself}
use Rattle.ft_static.proofs.laws.substitution_is_on_forms.Goals as goal

pub returns : goal.returns
returns c = record {
  integer_forms = λ e es m. (norm-substitute es m).0 e;
  memory_forms = λ k es m. (norm-substitute es m).1 k;
  integer_values = λ e es m s. (value-substitute es m s).0 e;
  memory_values = λ k es m s. (value-substitute es m s).1 k;
  integers_under = λ e ps u s lawful. (value_under ps u s lawful).0 e;
  memories_under = λ m ps u s lawful. (value_under ps u s lawful).1 m;
  lawful = valuation_under-lawful;
  own_integers = λ e n ps own. (norm_under_itself n ps own).0 e;
  own_memories = λ m n ps own. (norm_under_itself n ps own).1 m;
}
