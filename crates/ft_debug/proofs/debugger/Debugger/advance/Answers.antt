use Rattle.std.proofs.Common.{refl}
use Rattle.ft_debug.proofs.Advanced.{does_advance}
use Rattle.ft_debug.proofs.debugger.Debugger.advance.Goals as goal

pub returns-clause-does : goal.returns-clause-does
returns-clause-does g c =
    does_advance (g.P.Program.object c.args.program.now) c.args.self.now _ c.step-stepped.result c.put_output.result _ _
    (record {
      full = c.requires.ready.full;
      takes = c.step-stepped.ensures.takes;
      position = c.step-stepped.ensures.position;
      items = c.keep.ensures.moments;
      count = c.keep.ensures.count;
      breaks = refl;
    })
    c.put_output.ensures
