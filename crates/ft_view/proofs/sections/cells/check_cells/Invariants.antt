use Rattle.std.proofs.Common.{◌≡◌, ◌+◌, ◌-◌, ◌*◌, ◌^◌, ◌≤◌, length}
use Rattle.ft_format.specs.Layout.{rows, cell_layout}
use Rattle.ft_format.specs.Broken.{cells_broken}
use Rattle.ft_view.proofs.sections.cells.check_cells.Given as goal

abbrev pub invariant-loop : goal.invariant-loop
invariant-loop l = record {
  there : 16 * (l.header.cells - l.counter) ≤ length l.rest;
  places : l.place + 16 * (l.header.cells - l.counter) ≤ 2 ^ 27;
  start : l.start ≤ l.header.names;
  broken : cells_broken l.header l.start l.place (rows cell_layout (l.header.cells - l.counter) l.rest)
      ≡ cells_broken l.header 0 48 (rows cell_layout l.header.cells l.bytes);
}
