use Rattle.std.proofs.Common.{◌≡◌, ◌-◌, ◌<◌, [], length, take, drop}
use Rattle.ft_lower.specs.Cutting.{blocks_onto}
use Rattle.ft_lower.proofs.cutting.next_block.Given as goal

abbrev pub invariant-loop-last : goal.invariant-loop-last
invariant-loop-last l = record {
  high : l.last < length l.steps;
  onto : blocks_onto [] l.steps ≡ blocks_onto (take l.last l.steps) (drop l.last l.steps);
}

abbrev pub decreases-loop-last : goal.decreases-loop-last
decreases-loop-last l = length l.steps - l.last
