use Rattle.std.proofs.Common.{◌≡◌, ◌++◌, length, take, drop}
use Rattle.std.specs.List.{sum_by}
use Rattle.ft_types.specs.Objects.{name_of}
use Rattle.ft_format.specs.Layout.{spelled, cell_layout}
use Rattle.ft_format.specs.Rows.{cell_rows}
use Rattle.ft_encode.proofs.writing.write_cells.Given as goal

abbrev pub invariant-loop-cell : goal.invariant-loop-cell
invariant-loop-cell l = record {
  past : l.past ≡ sum_by (λ c. length (name_of c)) (take l.cell-index l.cells);
  put : l.out.items ++ spelled cell_layout (cell_rows l.past (drop l.cell-index l.cells)) ≡ l.fn.out.items
      ++ spelled cell_layout (cell_rows 0 l.cells);
}
