use Rattle.std.proofs.Common.{◌≡◌, [], subst, arith, rules}
use Rattle.ft_machine.specs.declared.stepped.Pause.TheVariants.{Running}
use Rattle.ft_machine.specs.Goes.{Goes}
use Rattle.ft_machine.proofs.Going.{goes_none, goes_more, goes_may}
use Rattle.ft_machine.specs.Processors.{state_over}
use Rattle.ft_machine.proofs.processor.Processor.go.Goals as goal

pub loop-taken-init : goal.loop-taken-init
loop-taken-init g c = record {
  few = omega arith;
  goes = goes_none g.T.Outlet (g.P.Program.object c.args.program.now)
      (state_over c.args.self.now (g.Q.PendingStores.pending c.args.queue.now) c.args.cells.now) c.args.wild.now
      c.args.outlet.now c.requires.running;
}

pub go_some-next-requires-clause-may : goal.go_some-next-requires-clause-may
go_some-next-requires-clause-may g c =
    let pending = g.Q.PendingStores.pending in
    goes_may g.T.Outlet (g.P.Program.object c.args.program.now)
    (state_over c.args.self.now (pending c.args.queue.now) c.args.cells.now)
    (state_over c.loop-taken.self (pending c.loop-taken.queue) c.loop-taken.cells) c.args.wild.now
    c.loop-taken.wild c.args.outlet.now c.loop-taken.outlet
    c.loop-taken.taken Running c.loop-taken.invariant.goes c.requires.may

pub returns-then-not-runs_on-clause-goes : goal.returns-then-not-runs_on-clause-goes
returns-then-not-runs_on-clause-goes g c =
    let pending = g.Q.PendingStores.pending in
    goes_more g.T.Outlet (g.P.Program.object c.args.program.now)
    (state_over c.args.self.now (pending c.args.queue.now) c.args.cells.now)
    (state_over c.loop-taken.self (pending c.loop-taken.queue) c.loop-taken.cells)
    (state_over c.go_some-next.new.self (pending c.go_some-next.new.queue) c.go_some-next.new.cells) c.args.wild.now
    c.loop-taken.wild c.go_some-next.new.wild
    c.args.outlet.now c.loop-taken.outlet c.go_some-next.new.outlet c.loop-taken.taken c.go_some-next.result.taken
    c.go_some-next.result.pause c.loop-taken.invariant.goes c.go_some-next.ensures.goes

pub returns-then-not-runs_on-clause-heard : goal.returns-then-not-runs_on-clause-heard
returns-then-not-runs_on-clause-heard g c =
    let pending = g.Q.PendingStores.pending in
    let more = goes_more g.T.Outlet (g.P.Program.object c.args.program.now)
    (state_over c.args.self.now (pending c.args.queue.now) c.args.cells.now)
    (state_over c.loop-taken.self (pending c.loop-taken.queue) c.loop-taken.cells)
    (state_over c.go_some-next.new.self (pending c.go_some-next.new.queue) c.go_some-next.new.cells) c.args.wild.now
    c.loop-taken.wild c.go_some-next.new.wild
    c.args.outlet.now c.loop-taken.outlet c.go_some-next.new.outlet c.loop-taken.taken c.go_some-next.result.taken
    c.go_some-next.result.pause c.loop-taken.invariant.goes c.go_some-next.ensures.goes in
    more.hears c.args.outlet.now [] (g.met.T.Outlet.heard_none c.args.outlet.now)

pub loop-taken-preserved : goal.loop-taken-preserved
loop-taken-preserved g c =
    let pending = g.Q.PendingStores.pending in
    let o = g.P.Program.object c.args.program.now in
    let running : c.go_some-next.result.pause ≡ Running = search rules in
    record {
      few = omega (arith, c.loop-taken.invariant.few, c.go_some-next.ensures.few);
      goes = goes_more g.T.Outlet o (state_over c.args.self.now (pending c.args.queue.now) c.args.cells.now)
          (state_over c.loop-taken.self (pending c.loop-taken.queue) c.loop-taken.cells)
          (state_over c.go_some-next.new.self (pending c.go_some-next.new.queue) c.go_some-next.new.cells)
          c.args.wild.now
          c.loop-taken.wild c.go_some-next.new.wild
          c.args.outlet.now c.loop-taken.outlet c.go_some-next.new.outlet c.loop-taken.taken c.go_some-next.result.taken
          Running c.loop-taken.invariant.goes
          (subst (λ x. Goes g.T.Outlet o (state_over c.loop-taken.self (pending c.loop-taken.queue) c.loop-taken.cells)
          c.loop-taken.wild c.loop-taken.outlet (state_over c.go_some-next.new.self (pending c.go_some-next.new.queue)
          c.go_some-next.new.cells)
          c.go_some-next.new.wild c.go_some-next.new.outlet c.go_some-next.result.taken x) running
          c.go_some-next.ensures.goes);
    }

pub returns-clause-heard : goal.returns-clause-heard
returns-clause-heard g c = c.loop-taken.invariant.goes.hears c.args.outlet.now []
    (g.met.T.Outlet.heard_none c.args.outlet.now)
