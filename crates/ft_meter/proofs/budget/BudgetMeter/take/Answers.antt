use Rattle.std.proofs.Common.{arith}
use Rattle.ft_meter.proofs.Budgets.{granted, refused}
use Rattle.ft_meter.proofs.budget.BudgetMeter.take.Goals as goal
use Rattle.ft_meter.proofs.budget.BudgetMeter.take.Goals.{in_default-via-in-Some+else-steps-left}
use Rattle.ft_meter.proofs.budget.BudgetMeter.take.Goals.{in_default-via-in_default}

pub returns-in-Some-clause-most : goal.returns-in-Some-clause-most
returns-in-Some-clause-most c = rw c.in-Some.is (granted c.in-Some.left c.args.steps c.if-steps-left.true)

pub returns-in_default-clause-most : goal.returns-in_default-clause-most
returns-in_default-clause-most c = elim c.in_default.branch [
  | in_default-via-in-Some+else-steps-left w ↦ rw w.in-Some.is
      (refused w.in-Some.left c.args.steps (omega (arith, w.if-steps-left.false)))
  | in_default-via-in_default w ↦ rw w.in_default.is (omega arith)
]
