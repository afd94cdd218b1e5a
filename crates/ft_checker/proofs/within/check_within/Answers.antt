use Rattle.ft_typing.proofs.Acceptance.{accepted_is_unrefused}
use Rattle.ft_checker.specs.Costs.{check_cost}
use Rattle.ft_checker.proofs.Spent.{not_spent}
use Rattle.ft_checker.proofs.within.check_within.Goals as goal

pub returns-then-is_spent-clause-enough : goal.returns-then-is_spent-clause-enough
returns-then-is_spent-clause-enough g c = not_spent c.args.budget.now.steps c.judge-judged.new.meter.steps
    (check_cost (g.P.Program.object c.args.program.now)) c.judge-judged.ensures.steps

pub returns-in-Ok-clause-enough : goal.returns-in-Ok-clause-enough
returns-in-Ok-clause-enough g c = not_spent c.args.budget.now.steps c.judge-judged.new.meter.steps
    (check_cost (g.P.Program.object c.args.program.now)) c.judge-judged.ensures.steps

pub returns-in-Err-clause-enough : goal.returns-in-Err-clause-enough
returns-in-Err-clause-enough g c = not_spent c.args.budget.now.steps c.judge-judged.new.meter.steps
    (check_cost (g.P.Program.object c.args.program.now)) c.judge-judged.ensures.steps

pub invariant_of-result : goal.invariant_of-result
invariant_of-result g c = record {
  spellable = c.requires;
  accepted = (accepted_is_unrefused (g.P.Program.object c.args.program.now)).1 c.in-Ok.ensures.judged;
}
