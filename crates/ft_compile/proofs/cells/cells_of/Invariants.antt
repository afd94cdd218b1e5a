use Rattle.std.proofs.Common.{◌≡◌, ◌+◌, ◌++◌, drop, length, map}
use Rattle.std.specs.List.{zip}
use Rattle.std.specs.Vec.Iter.{into_iter_items}
use Rattle.ft_compile.specs.Emitted.{cell_from}
use Rattle.ft_compile.proofs.cells.cells_of.Given as goal

abbrev pub invariant-loop-name : goal.invariant-loop-name
invariant-loop-name l = record {
  many : l.k + length (into_iter_items l.name-iterator) ≡ length l.inits;
  left : l.cells.items ++ map cell_from (zip (map (λ n. n.items) (into_iter_items l.name-iterator)) (drop l.k l.inits))
      ≡ map cell_from (zip (map (λ n. n.items) l.fn.names.items) l.inits);
}
