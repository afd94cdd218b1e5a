use Rattle.std.proofs.Common.{map, drop}
use Rattle.ft_modules.specs.Linked.{change_of}
use Rattle.ft_linker.specs.Changes.{Holds}
use Rattle.ft_linker.specs.Joins.{link_as}
use Rattle.ft_linker.proofs.joins.changes_of.Given as goal

abbrev pub invariant-loop-i : goal.invariant-loop-i
invariant-loop-i l = Holds l.changes (map (change_of l.objects) (map link_as (drop l.i l.joins)))
