use Rattle.std.proofs.Common.{ap, ◌∙◌}
use Rattle.ft_semantics.specs.declared.status.Status.TheVariants.{Running}
use Rattle.ft_semantics.specs.State.{State, is_cell}
use Rattle.ft_machine.proofs.Steps.{step_at_is_proper}
use Rattle.ft_machine.specs.Processors.{state_over}
use Rattle.ft_machine.proofs.processor.Processor.step.Goals as goal

pub returns-in-Running-clause-cells : goal.returns-in-Running-clause-cells
returns-in-Running-clause-cells g c = λ n h a.
    let o = g.P.Program.object c.args.program.now in
    ap (λ (s : State). is_cell s.cells a) c.fetch_or_execute.ensures.state_is
    ∙ (step_at_is_proper o Running (state_over c.args.self.now (g.Q.PendingStores.pending c.args.queue.now)
    c.args.cells.now) c.args.wild.now).cells a ∙ h a
