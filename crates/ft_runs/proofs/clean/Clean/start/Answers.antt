use Rattle.std.proofs.Common.{None, sym, ap, ◌∙◌}
use Rattle.ft_semantics.specs.Run.{Ran, run-zero}
use Rattle.ft_runs.proofs.clean.Clean.start.Goals as goal

pub invariant_of-result : goal.invariant_of-result
invariant_of-result g c = record {
  spellable = c.program-program.ensures.checked.spellable;
  accepted = c.program-program.ensures.checked.accepted;
  state = λ w. c.in_ok-machine.ensures.start ∙ sym
      (ap (λ (r : Ran). r.state) (run-zero (g.P.Program.object c.program-program.result.now) None w));
}
