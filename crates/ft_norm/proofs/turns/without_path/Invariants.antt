use Rattle.std.proofs.Common.{◌<◌, length}
use Rattle.ft_norm.proofs.turns.without_path.Given as goal

abbrev pub invariant-loop-open : goal.invariant-loop-open
invariant-loop-open l = record { bound : l.k < length l.entries }

abbrev pub decreases-loop-open : goal.decreases-loop-open
decreases-loop-open l = l.k
