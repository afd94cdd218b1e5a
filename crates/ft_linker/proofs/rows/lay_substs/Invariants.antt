use Rattle.std.proofs.Common.{◌≡◌, ◌+◌, ◌++◌, map, take}
use Rattle.ft_linker.proofs.rows.lay_substs.Given as goal

abbrev pub invariant-loop-n : goal.invariant-loop-n
invariant-loop-n l = l.laid.items ≡ l.initial.laid.items ++ map (λ n. l.k + n) (take l.n l.substs)
