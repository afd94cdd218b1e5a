use Rattle.std.proofs.Common.{◌≡◌, ◌+◌, ◌-◌, ℕ, suc, None, Some, List, refl, ap, ◌∙◌, arith, take}
use Rattle.std.proofs.lemmas.List.{length-drop}
use Rattle.std.proofs.lemmas.Result.{err_from_is_err_and}
use Rattle.ft_format.specs.Layout.{numbers, cell_layout}
use Rattle.ft_format.specs.Fields.{cell_numbers}
use Rattle.ft_format.specs.Rules.{cell_broken}
use Rattle.ft_format.specs.Broken.{cells_broken}
use Rattle.ft_format.proofs.Loops.{goes, stops, ends}
use Rattle.ft_view.proofs.sections.cells.check_cells.Goals as goal

pub returns-in_err-check_cell : goal.returns-in_err-check_cell
unfolding cells_broken
returns-in_err-check_cell c =
    let one_more : c.args.header.cells - c.loop.counter ≡ suc (c.args.header.cells - (c.loop.counter + 1)) =
    omega arith in
    let bs = c.loop.rest.now in
    let row : List ℕ = cell_numbers c.read-row.result in
    let is : row ≡ numbers cell_layout (take 16 bs) = c.read-row.ensures
    ∙ ap (numbers cell_layout) c.split_at.ensures.front in
    let rule : (cell_broken c.args.header c.loop.start c.loop.place row) ≡ Some c.in_err-check_cell.field-0.0 =
    c.in_err-check_cell.ensures.judged in
    let p = err_from_is_err_and c.from_residual.result c.from_residual.ensures.1 in
    rw (p.1, p.2) (stops cell_layout _ _ bs row (cell_broken c.args.header c.loop.start c.loop.place row) _
    c.in_err-check_cell.field-0.0 (cells_broken c.args.header c.loop.start c.loop.place)
    (cells_broken c.args.header c.read-row.result.past (c.loop.place + 16)) one_more is (λ rest.
    refl) rule c.loop.invariant.broken)

pub loop-preserved : goal.loop-preserved
unfolding cells_broken
loop-preserved c =
    let one_more : c.args.header.cells - c.loop.counter ≡ suc (c.args.header.cells - (c.loop.counter + 1)) =
    omega arith in
    let bs = c.loop.rest.now in
    let row : List ℕ = cell_numbers c.read-row.result in
    let is : row ≡ numbers cell_layout (take 16 bs) = c.read-row.ensures
    ∙ ap (numbers cell_layout) c.split_at.ensures.front in
    let rule : (cell_broken c.args.header c.loop.start c.loop.place row) ≡ None = c.in_ok-check_cell.ensures.judged in
    rw (c.split_at.ensures.back) (record {
      there = omega (arith, length-drop 16 bs);
      places = omega arith;
      start = c.in_ok-check_cell.ensures.past;
      broken = goes cell_layout _ _ bs row (cell_broken c.args.header c.loop.start c.loop.place row) _
          (cells_broken c.args.header c.loop.start c.loop.place)
          (cells_broken c.args.header c.read-row.result.past (c.loop.place + 16)) one_more is (λ rest.
          refl) rule c.loop.invariant.broken;
    })

pub returns : goal.returns
unfolding cells_broken
returns c =
    let no_more : c.args.header.cells - c.loop.counter ≡ 0 = omega arith in
    ends cell_layout _ c.loop.rest.now _ _ (cells_broken c.args.header c.loop.start c.loop.place) no_more refl
    c.loop.invariant.broken
