use Rattle.ft_debug.proofs.Listed.{PutsEntries}
use Rattle.ft_debug.proofs.answers.put_queue.Given as goal

abbrev pub invariant-loop-i : goal.invariant-loop-i
invariant-loop-i g l = PutsEntries l.queue l.i (g.K.Sink.log l.fn.out) (g.K.Sink.log l.out)
