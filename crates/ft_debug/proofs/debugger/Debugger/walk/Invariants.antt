use Rattle.std.proofs.Common.{◌≡◌, ◌+◌}
use Rattle.ft_debug.specs.Inside.{Ready, halting}
use Rattle.ft_debug.proofs.Advanced.{Walked}
use Rattle.ft_debug.proofs.debugger.Debugger.walk.Given as goal

abbrev pub invariant-loop : goal.invariant-loop
invariant-loop g l =
    let o = g.P.Program.object l.program in
    record {
      ready : Ready o l.self;
      breaks : l.self.breaks ≡ l.fn.self.breaks;
      position : l.self.present.position ≡ l.fn.self.present.position + l.counter;
      walked : Walked o (halting l.halts l.fn.self.breaks) l.count l.counter l.fn.self l.self
          (g.K.Sink.log l.fn.out) (g.K.Sink.log l.out);
    }
