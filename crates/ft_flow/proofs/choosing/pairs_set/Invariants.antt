use Rattle.std.proofs.Common.{◌≡◌}
use Rattle.ft_flow.specs.Faults.{pairs_set}
use Rattle.ft_flow.proofs.choosing.pairs_set.Given as goal

abbrev pub invariant-loop-q : goal.invariant-loop-q
invariant-loop-q l = l.set ≡ pairs_set l.q
