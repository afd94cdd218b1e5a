use Rattle.std.proofs.Common.{◌≡◌, ◌-◌, ◌*◌, ◌≤◌, length}
use Rattle.std.specs.List.{list_any}
use Rattle.std.specs.Str.{bytes_eq}
use Rattle.ft_format.specs.Layout.{rows, cell_layout}
use Rattle.ft_format.specs.Values.{past_of, cells_of}
use Rattle.ft_view.specs.Ends.{AreEnds}
use Rattle.ft_view.proofs.sections.names.has_name.Given as goal

abbrev pub invariant-loop : goal.invariant-loop
invariant-loop l = record {
  there : 16 * (l.count - l.counter) ≤ length l.rest;
  ends : AreEnds past_of (length l.names) l.start (rows cell_layout (l.count - l.counter) l.rest);
  left : list_any (λ c. bytes_eq l.name c.name) (cells_of l.names l.start
      (rows cell_layout (l.count - l.counter) l.rest))
      ≡ list_any (λ c. bytes_eq l.name c.name) (cells_of l.names 0 (rows cell_layout l.count l.records));
}
