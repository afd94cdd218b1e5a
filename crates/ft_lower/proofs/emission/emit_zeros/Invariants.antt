use Rattle.std.proofs.Common.{◌≡◌, ◌++◌}
use Rattle.ft_lower.specs.Lowered.{zeros}
use Rattle.ft_lower.proofs.emission.emit_zeros.Given as goal

abbrev pub invariant-loop-p : goal.invariant-loop-p
invariant-loop-p l = l.steps.items ≡ l.initial.steps.items ++ zeros l.p
