use Rattle.std.proofs.Common.{◌≡◌, ◌++◌, map, take}
use Rattle.ft_modules.specs.Linked.{raised_type}
use Rattle.ft_linker.proofs.rows.lay_types.Given as goal

abbrev pub invariant-loop-n : goal.invariant-loop-n
invariant-loop-n l = l.laid.items ≡ l.initial.laid.items ++ map (raised_type l.k) (take l.n l.types)
