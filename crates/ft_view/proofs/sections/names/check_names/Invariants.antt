use Rattle.std.proofs.Common.{◌≡◌, ◌+◌, ◌-◌, ◌*◌, ◌≤◌, [], length, drop}
use Rattle.ft_format.specs.Layout.{rows, cell_layout}
use Rattle.ft_format.specs.Values.{past_of, cells_of}
use Rattle.ft_format.specs.Broken.{names_broken}
use Rattle.ft_view.specs.Ends.{AreEnds}
use Rattle.ft_view.specs.Viewed.{last_end}
use Rattle.ft_view.proofs.sections.names.check_names.Given as goal

abbrev pub invariant-loop-i : goal.invariant-loop-i
invariant-loop-i l = record {
  there : 16 * (l.fn.count - l.i) ≤ length l.rest;
  rest : l.rest ≡ drop (16 * l.i) l.records;
  start : l.start ≤ length l.names;
  last : l.start ≡ last_end past_of 0 (rows cell_layout l.i l.records);
  ends : AreEnds past_of (length l.names) l.start (rows cell_layout (l.fn.count - l.i) l.rest);
  broken : names_broken l.version l.fn.end (cells_of l.names 0 (rows cell_layout l.i l.records)) (l.at + l.start)
      (cells_of l.names l.start (rows cell_layout (l.fn.count - l.i) l.rest))
      ≡ names_broken l.version l.fn.end [] l.at (cells_of l.names 0 (rows cell_layout l.fn.count l.records));
}
