use Rattle.std.proofs.Common.{◌≡◌, [], ◌++◌, map, take}
use Rattle.ft_modules.specs.Linked.{raised_pair}
use Rattle.ft_linker.proofs.rows.raise_pairs.Given as goal

abbrev pub invariant-loop-n : goal.invariant-loop-n
invariant-loop-n l = l.raised.items ≡ [] ++ map (raised_pair l.k) (take l.n l.pairs)
