use Rattle.std.proofs.Common.{◌≡◌, ◌+◌, ◌-◌, ℕ, suc, None, Some, List, refl, ap, ◌∙◌, arith, take}
use Rattle.std.proofs.lemmas.List.{length-drop}
use Rattle.std.proofs.lemmas.Result.{err_from_is_err_and}
use Rattle.ft_format.specs.Layout.{numbers, subst_layout}
use Rattle.ft_format.specs.Fields.{subst_numbers}
use Rattle.ft_format.specs.Rules.{subst_broken}
use Rattle.ft_format.specs.Broken.{subst_rows_broken}
use Rattle.ft_format.proofs.Loops.{goes, stops, ends}
use Rattle.ft_view.proofs.sections.substs.check_rows.Goals as goal

pub returns-in_err-check_node_number : goal.returns-in_err-check_node_number
unfolding subst_rows_broken numbers
returns-in_err-check_node_number c =
    let one_more : c.args.count - c.loop.counter ≡ suc (c.args.count - (c.loop.counter + 1)) = omega arith in
    let bs = c.loop.rest.now in
    let row : List ℕ = subst_numbers c.read-row.result in
    let is : row ≡ numbers subst_layout (take 4 bs) = c.read-row.ensures
    ∙ ap (numbers subst_layout) c.split_at.ensures.front in
    let rule : (subst_broken c.args.nodes.now c.loop.place row) ≡ Some c.in_err-check_node_number.field-0.0 =
    c.in_err-check_node_number.ensures in
    let p = err_from_is_err_and c.from_residual.result c.from_residual.ensures.1 in
    rw (p.1, p.2) (stops subst_layout _ _ bs row (subst_broken c.args.nodes.now c.loop.place row) _
    c.in_err-check_node_number.field-0.0 (subst_rows_broken c.args.nodes.now c.loop.place)
    (subst_rows_broken c.args.nodes.now (c.loop.place + 4)) one_more is (λ rest. refl) rule c.loop.invariant.broken)

pub loop-preserved : goal.loop-preserved
unfolding subst_rows_broken numbers
loop-preserved c =
    let one_more : c.args.count - c.loop.counter ≡ suc (c.args.count - (c.loop.counter + 1)) = omega arith in
    let bs = c.loop.rest.now in
    let row : List ℕ = subst_numbers c.read-row.result in
    let is : row ≡ numbers subst_layout (take 4 bs) = c.read-row.ensures
    ∙ ap (numbers subst_layout) c.split_at.ensures.front in
    let rule : (subst_broken c.args.nodes.now c.loop.place row) ≡ None = c.in_ok-check_node_number.ensures in
    rw (c.split_at.ensures.back) (record {
      there = omega (arith, length-drop 4 bs);
      places = omega arith;
      broken = goes subst_layout _ _ bs row (subst_broken c.args.nodes.now c.loop.place row) _
          (subst_rows_broken c.args.nodes.now c.loop.place) (subst_rows_broken c.args.nodes.now (c.loop.place + 4))
          one_more is (λ rest. refl) rule c.loop.invariant.broken;
    })

pub returns : goal.returns
unfolding subst_rows_broken numbers
returns c =
    let no_more : c.args.count - c.loop.counter ≡ 0 = omega arith in
    ends subst_layout _ c.loop.rest.now _ _ (subst_rows_broken c.args.nodes.now c.loop.place) no_more refl
    c.loop.invariant.broken
