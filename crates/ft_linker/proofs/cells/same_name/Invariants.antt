use Rattle.std.proofs.Common.{◌≡◌, drop}
use Rattle.ft_modules.specs.Links.{same_name}
use Rattle.ft_linker.proofs.cells.same_name.Given as goal

abbrev pub invariant-loop-k : goal.invariant-loop-k
invariant-loop-k l = same_name l.a l.b ≡ same_name (drop l.k l.a) (drop l.k l.b)
