use Rattle.std.proofs.Common.{◌≡◌, ◌+◌, drop}
use Rattle.ft_lower.specs.Size.{row_size}
use Rattle.ft_dup.proofs.sizes.block_size.Given as goal

abbrev pub invariant-loop-step : goal.invariant-loop-step
invariant-loop-step l = l.size + row_size (drop l.step-index l.steps) ≡ row_size l.steps
