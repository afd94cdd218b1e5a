use Rattle.std.proofs.Common.{◌≡◌, ◌++◌, drop, slice_index}
use Rattle.ft_dup.specs.Images.{row_images}
use Rattle.ft_dup.proofs.whole.put_steps.Given as goal

abbrev pub invariant-loop-step : goal.invariant-loop-step
invariant-loop-step l = l.code.items ++ row_images (slice_index l.starts) (drop l.step-index l.steps)
    ≡ row_images (slice_index l.starts) l.steps
