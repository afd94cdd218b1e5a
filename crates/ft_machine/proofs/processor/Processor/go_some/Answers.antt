use Rattle.ft_machine.proofs.Going.{goes_one}
use Rattle.ft_machine.specs.Processors.{state_over}
use Rattle.ft_machine.proofs.processor.Processor.go_some.Goals as goal

pub returns-clause-goes : goal.returns-clause-goes
returns-clause-goes g c =
    let pending = g.Q.PendingStores.pending in
    goes_one g.T.Outlet (g.P.Program.object c.args.program.now)
    (state_over c.args.self.now (pending c.args.queue.now) c.args.cells.now)
    (state_over c.step-stepped.new.self (pending c.step-stepped.new.queue) c.step-stepped.new.cells) c.args.wild.now
    c.step-stepped.new.wild c.args.outlet.now c.pass_on.new.outlet
    c.step-stepped.result c.pass_on.result c.requires.running c.step-stepped.ensures.takes c.pass_on.ensures
