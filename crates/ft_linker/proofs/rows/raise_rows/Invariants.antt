use Rattle.std.proofs.Common.{◌≡◌, [], ◌++◌, map, take}
use Rattle.ft_modules.specs.Linked.{raised_row}
use Rattle.ft_linker.proofs.rows.raise_rows.Given as goal

abbrev pub invariant-loop-n : goal.invariant-loop-n
invariant-loop-n l = l.raised.items ≡ [] ++ map (raised_row l.k) (take l.n l.rows)
