use Rattle.ft_static.proofs.FormRows.{norm_is_normal, norm_memory_is_proper, normal_op, normal_rem, normal_sel}
use Rattle.ft_static.proofs.FormRows.{proper_upd, under_is_normal, memory_under_is_proper}
use Rattle.ft_static.proofs.laws.forms_are_in_order.Goals as goal

pub returns : goal.returns
returns c = record {
  integers = norm_is_normal;
  memories = norm_memory_is_proper;
  operations = normal_op;
  selections = normal_sel;
  remainders = normal_rem;
  updates = proper_upd;
  integers_under = under_is_normal;
  memories_under = memory_under_is_proper;
}
