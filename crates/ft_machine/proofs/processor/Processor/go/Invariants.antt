use Rattle.std.proofs.Common.{◌≤◌, ◌-◌}
use Rattle.ft_machine.specs.declared.stepped.Pause.TheVariants.{Running}
use Rattle.ft_machine.specs.Goes.{Goes}
use Rattle.ft_machine.specs.Processors.{state_over}
use Rattle.ft_machine.proofs.processor.Processor.go.Given as goal

abbrev pub invariant-loop-taken : goal.invariant-loop-taken
invariant-loop-taken g l = record {
  few : l.taken ≤ l.most;
  goes : Goes g.T.Outlet (g.P.Program.object l.program) (state_over l.fn.self (g.Q.PendingStores.pending l.fn.queue)
      l.fn.cells) l.fn.wild l.fn.outlet (state_over l.self (g.Q.PendingStores.pending l.queue) l.cells) l.wild l.outlet
      l.taken
      Running;
}

abbrev pub decreases-loop-taken : goal.decreases-loop-taken
decreases-loop-taken g l = l.most - l.taken
