use Rattle.std.proofs.Common.{◌≡◌, ◌+◌, ◌++◌, [], length}
use Rattle.ft_lower.specs.Cutting.{blocks_onto}
use Rattle.ft_lower.specs.Size.{blocks_size}
use Rattle.ft_dup.specs.Images.{starts, starts_from}
use Rattle.ft_dup.proofs.sizes.block_places.Given as goal

abbrev pub invariant-loop-left : goal.invariant-loop-left
invariant-loop-left l = record {
  room : l.next + blocks_size (blocks_onto [] l.left) ≡ blocks_size (blocks_onto [] l.steps);
  left : l.starts.items ++ starts_from l.next (blocks_onto [] l.left) ≡ starts (blocks_onto [] l.steps);
}

abbrev pub decreases-loop-left : goal.decreases-loop-left
decreases-loop-left l = length l.left
