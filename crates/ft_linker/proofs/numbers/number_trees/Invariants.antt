use Rattle.ft_linker.specs.Keys.{look}
use Rattle.ft_linker.specs.Numbers.{AreKnown}
use Rattle.ft_linker.proofs.numbers.number_trees.Given as goal

abbrev pub invariant-loop-n : goal.invariant-loop-n
invariant-loop-n l = AreKnown l.nodes l.numbers.items l.n (look l.known)
