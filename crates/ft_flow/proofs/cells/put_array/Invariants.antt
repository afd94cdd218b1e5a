use Rattle.std.proofs.Common.{◌≡◌, ◌-◌, ◌++◌, map}
use Rattle.ft_scope.specs.CellNames.{array_names}
use Rattle.ft_flow.proofs.cells.put_array.Given as goal

abbrev pub invariant-loop-k : goal.invariant-loop-k
invariant-loop-k l = map (λ n. n.items) l.cells.items ++ array_names l.name l.k (l.length - l.k)
    ≡ map (λ n. n.items) l.fn.cells.items ++ array_names l.name 0 l.length
