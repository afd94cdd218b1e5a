use Rattle.ft_debug.proofs.Listed.{NoneNamed}
use Rattle.ft_debug.proofs.answers.named_cell.Given as goal

abbrev pub invariant-loop-k : goal.invariant-loop-k
invariant-loop-k g l = NoneNamed (g.P.Program.object l.program) l.name l.k
