use Rattle.std.proofs.Common.{◌≡◌, map, take}
use Rattle.ft_norm.specs.Packing.{ArePacked, unpacked}
use Rattle.ft_norm.proofs.packed.packed.Given as goal

abbrev pub invariant-loop-term : goal.invariant-loop-term
invariant-loop-term l = record {
  same : map unpacked l.list.items ≡ take l.term-index l.terms;
  packed : ArePacked l.list.items;
}
