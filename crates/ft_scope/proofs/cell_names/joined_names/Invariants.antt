use Rattle.std.proofs.Common.{◌≡◌, ◌++◌, drop, map}
use Rattle.ft_scope.specs.CellNames.{joined_names}
use Rattle.ft_scope.proofs.cell_names.joined_names.Given as goal

abbrev pub invariant-loop-k : goal.invariant-loop-k
invariant-loop-k l = map (λ n. n.items) l.names.items
    ++ joined_names (map (λ r. r.now) (drop l.k l.texts)) (drop l.k l.places)
    ≡ joined_names (map (λ r. r.now) l.texts) l.places
