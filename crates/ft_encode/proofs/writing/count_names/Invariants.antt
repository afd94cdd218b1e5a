use Rattle.std.proofs.Common.{◌≡◌, length, take}
use Rattle.std.specs.List.{sum_by}
use Rattle.ft_types.specs.Objects.{name_of}
use Rattle.ft_encode.proofs.writing.count_names.Given as goal

abbrev pub invariant-loop-cell : goal.invariant-loop-cell
invariant-loop-cell l = l.count ≡ sum_by (λ x. length (name_of x)) (take l.cell-index l.cells)
