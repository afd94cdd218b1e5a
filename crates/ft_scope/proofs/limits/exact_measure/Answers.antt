use Rattle.std.proofs.Common.{arith}
use Rattle.ft_syntax.specs.Plain.{plain_list}
use Rattle.ft_scope.specs.Size.{same_slot}
use Rattle.ft_scope.proofs.Measures.{most_need_within, statements_within}
use Rattle.ft_scope.proofs.limits.exact_measure.Goals as goal

pub returns-clause-need : goal.returns-clause-need
returns-clause-need c = omega (
  arith,
  c.measure_statements.ensures.need,
  most_need_within (plain_list same_slot c.args.all.now),
  c.requires,
)

pub returns-clause-weight : goal.returns-clause-weight
returns-clause-weight c = omega (
  arith,
  c.measure_statements.ensures.weight,
  statements_within (plain_list same_slot c.args.all.now),
  c.requires,
)

pub returns-clause-few : goal.returns-clause-few
returns-clause-few c = omega (
  arith,
  c.measure_statements.ensures.need,
  most_need_within (plain_list same_slot c.args.all.now),
  c.requires,
)

pub returns-clause-light : goal.returns-clause-light
returns-clause-light c = omega (
  arith,
  c.measure_statements.ensures.weight,
  statements_within (plain_list same_slot c.args.all.now),
  c.requires,
)
