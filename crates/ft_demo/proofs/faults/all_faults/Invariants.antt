use Rattle.std.proofs.Common.{◌≡◌}
use Rattle.ft_demo.specs.Demonstrations.{first_faults}
use Rattle.ft_demo.proofs.faults.all_faults.Given as goal

abbrev pub invariant-loop-j : goal.invariant-loop-j
invariant-loop-j l = l.faults.items ≡ first_faults l.j
