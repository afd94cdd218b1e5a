use Rattle.std.proofs.Common.{◌≡◌, map, take}
use Rattle.std.specs.Prelude.{filter_map}
use Rattle.ft_linker.specs.Joins.{link_as}
use Rattle.ft_linker.proofs.Joining.{link_of}
use Rattle.ft_linker.proofs.joins.joined.Given as goal

abbrev pub invariant-loop-n : goal.invariant-loop-n
invariant-loop-n l = map link_as l.joins.items ≡ filter_map (link_of l.linkage) (take l.n l.linkage.imports)
