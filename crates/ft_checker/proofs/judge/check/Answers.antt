use Rattle.ft_typing.proofs.Acceptance.{accepted_is_unrefused}
use Rattle.ft_checker.proofs.judge.check.Goals as goal

pub invariant_of-result : goal.invariant_of-result
invariant_of-result g c = record {
  spellable = c.requires;
  accepted = (accepted_is_unrefused (g.P.Program.object c.args.program.now)).1 c.in-Ok.ensures.judged;
}
