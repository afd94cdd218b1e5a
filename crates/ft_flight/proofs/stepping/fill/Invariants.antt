use Rattle.std.proofs.Common.{◌≡◌, ◌≤◌, ◌-◌, [], length}
use Rattle.ft_machine.specs.Processors.{state_over}
use Rattle.ft_machine.specs.Spans.{span}
use Rattle.ft_flight.specs.Rings.{pending_of}
use Rattle.ft_flight.specs.Steps.{Fills}
use Rattle.ft_flight.proofs.stepping.fill.Given as goal

abbrev pub invariant-loop-left : goal.invariant-loop-left
invariant-loop-left g l = record {
  few : l.left ≤ l.most;
  within : l.count ≤ length l.out;
  same : length l.out ≡ length l.fn.out;
  seen : l.seen ≤ l.most - l.left;
  wild : l.wild ≡ (span (g.P.Program.object l.program) (l.most - l.left)
      (state_over l.fn.processor (pending_of l.fn.queue) l.fn.cells) []).wild;
  fills : Fills (g.P.Program.object l.program) (state_over l.fn.processor (pending_of l.fn.queue) l.fn.cells)
      (state_over l.processor (pending_of l.queue) l.cells) (l.most - l.left) l.skip l.seen l.count l.out;
}

abbrev pub decreases-loop-left : goal.decreases-loop-left
decreases-loop-left g l = l.left
