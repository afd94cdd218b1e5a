use Rattle.std.proofs.Common.{length}
use Rattle.ft_norm.specs.Ways.{ArePaths}
use Rattle.ft_norm.proofs.turns.note_paths.Given as goal

abbrev pub invariant-loop-k : goal.invariant-loop-k
invariant-loop-k l = record { paths : ArePaths l.entries l.paths }

abbrev pub decreases-loop-k : goal.decreases-loop-k
decreases-loop-k l = length l.open.items
