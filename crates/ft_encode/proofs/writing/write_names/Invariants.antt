use Rattle.std.proofs.Common.{◌≡◌, ◌++◌, drop}
use Rattle.std.specs.List.{flat_map}
use Rattle.ft_types.specs.Objects.{name_of}
use Rattle.ft_encode.proofs.writing.write_names.Given as goal

abbrev pub invariant-loop-cell : goal.invariant-loop-cell
invariant-loop-cell l = l.out.items ++ flat_map name_of (drop l.cell-index l.cells) ≡ l.fn.out.items
    ++ flat_map name_of l.cells
