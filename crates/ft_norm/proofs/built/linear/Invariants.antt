use Rattle.std.proofs.Common.{◌≡◌, map, take}
use Rattle.ft_norm.specs.Entries.{full}
use Rattle.ft_norm.proofs.built.linear.Given as goal

abbrev pub invariant-loop-term : goal.invariant-loop-term
invariant-loop-term l = map full l.list.items ≡ take l.term-index l.terms
