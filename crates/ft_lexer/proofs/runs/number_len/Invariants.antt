use Rattle.std.proofs.Common.{◌-◌, length}
use Rattle.ft_lexer.proofs.ByteRuns.{IsNumberRun}
use Rattle.ft_lexer.proofs.runs.number_len.Given as goal

abbrev pub invariant-loop-n : goal.invariant-loop-n
invariant-loop-n l = IsNumberRun l.text l.n

abbrev pub decreases-loop-n : goal.decreases-loop-n
decreases-loop-n l = length l.text - l.n

abbrev pub invariant-loop-n-2 : goal.invariant-loop-n-2
invariant-loop-n-2 l = IsNumberRun l.text l.n

abbrev pub decreases-loop-n-2 : goal.decreases-loop-n-2
decreases-loop-n-2 l = length l.text - l.n
