use Rattle.std.proofs.Common.{drop, subst, arith}
use Rattle.std.proofs.lemmas.List.{length-drop}
use Rattle.ft_format.specs.Layout.{rows, cell_layout}
use Rattle.ft_format.specs.Values.{past_of}
use Rattle.ft_format.specs.Broken.{cells_broken}
use Rattle.ft_view.specs.Found.{Finds}
use Rattle.ft_view.specs.Ends.{AreEnds}
use Rattle.ft_view.proofs.EndsRise.{ends_of_cells, found_fine}
use Rattle.ft_view.proofs.tables.judge_cells.Goals as goal

pub returns-clause-ends : goal.returns-clause-ends
returns-clause-ends c =
    let h = c.args.header in
    let bs = drop 48 c.args.bytes.now in
    found_fine c.check_cells.result (cells_broken h 0 48 (rows cell_layout h.cells bs))
    (AreEnds past_of h.names 0 (rows cell_layout h.cells bs))
    (subst (λ l. Finds c.check_cells.result (cells_broken h 0 48 (rows cell_layout h.cells l))) c.part.ensures
    c.check_cells.ensures) (λ none. ends_of_cells h h.cells bs 0 48 none)

pub check_cells-requires-clause-there : goal.check_cells-requires-clause-there
check_cells-requires-clause-there c = rw c.part.ensures (omega (
  arith,
  length-drop 48 c.args.bytes.now,
  c.requires.whole,
))
