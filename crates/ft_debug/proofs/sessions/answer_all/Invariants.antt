use Rattle.ft_debug.specs.Inside.{Ready}
use Rattle.ft_debug.proofs.Replied.{Replied}
use Rattle.ft_debug.proofs.sessions.answer_all.Given as goal

abbrev pub invariant-loop-command : goal.invariant-loop-command
invariant-loop-command g l =
    let o = g.P.Program.object l.program in
    record {
      ready : Ready o l.debugger;
      replied : Replied o l.wild l.commands l.command-index l.debugger
          (g.K.Sink.log l.fn.out) (g.K.Sink.log l.out);
    }
