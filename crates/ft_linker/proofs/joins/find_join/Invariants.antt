use Rattle.std.proofs.Common.{◌≡◌, map, drop}
use Rattle.std.specs.Prelude.{find}
use Rattle.ft_linker.specs.Joins.{is_from, link_as}
use Rattle.ft_linker.proofs.joins.find_join.Given as goal

abbrev pub invariant-loop-i : goal.invariant-loop-i
invariant-loop-i l = find (is_from l.entry) (map link_as l.joins)
    ≡ find (is_from l.entry) (map link_as (drop l.i l.joins))
