use Rattle.std.proofs.Common.{◌≡◌, ◌+◌, ◌-◌, ℕ, suc, None, Some, List, refl, ap, ◌∙◌, arith, take}
use Rattle.std.proofs.lemmas.List.{length-drop}
use Rattle.std.proofs.lemmas.Result.{err_from_is_err_and}
use Rattle.ft_format.specs.Layout.{numbers, pair_layout}
use Rattle.ft_format.specs.Fields.{pair_numbers}
use Rattle.ft_format.specs.Rules.{block_broken}
use Rattle.ft_format.specs.Broken.{blocks_broken}
use Rattle.ft_format.proofs.Loops.{goes, stops, ends}
use Rattle.ft_view.proofs.sections.blocks.check_blocks.Goals as goal

pub returns-in_err-check_block : goal.returns-in_err-check_block
unfolding blocks_broken
returns-in_err-check_block c =
    let one_more : c.args.header.blocks - c.loop.counter ≡ suc (c.args.header.blocks - (c.loop.counter + 1)) =
    omega arith in
    let bs = c.loop.rest.now in
    let row : List ℕ = pair_numbers c.read-row.result in
    let is : row ≡ numbers pair_layout (take 8 bs) = c.read-row.ensures
    ∙ ap (numbers pair_layout) c.split_at.ensures.front in
    let rule : (block_broken c.args.header c.loop.previous c.loop.place row) ≡ Some c.in_err-check_block.field-0.0 =
    c.in_err-check_block.ensures in
    let p = err_from_is_err_and c.from_residual.result c.from_residual.ensures.1 in
    rw (p.1, p.2) (stops pair_layout _ _ bs row (block_broken c.args.header c.loop.previous c.loop.place row) _
    c.in_err-check_block.field-0.0 (blocks_broken c.args.header c.loop.previous c.loop.place)
    (blocks_broken c.args.header (Some c.read-row.result.first) (c.loop.place + 8)) one_more is (λ rest.
    refl) rule c.loop.invariant.broken)

pub loop-preserved : goal.loop-preserved
unfolding blocks_broken
loop-preserved c =
    let one_more : c.args.header.blocks - c.loop.counter ≡ suc (c.args.header.blocks - (c.loop.counter + 1)) =
    omega arith in
    let bs = c.loop.rest.now in
    let row : List ℕ = pair_numbers c.read-row.result in
    let is : row ≡ numbers pair_layout (take 8 bs) = c.read-row.ensures
    ∙ ap (numbers pair_layout) c.split_at.ensures.front in
    let rule : (block_broken c.args.header c.loop.previous c.loop.place row) ≡ None = c.in_ok-check_block.ensures in
    rw (c.split_at.ensures.back) (record {
      there = omega (arith, length-drop 8 bs);
      places = omega arith;
      broken = goes pair_layout _ _ bs row (block_broken c.args.header c.loop.previous c.loop.place row) _
          (blocks_broken c.args.header c.loop.previous c.loop.place)
          (blocks_broken c.args.header (Some c.read-row.result.first) (c.loop.place + 8)) one_more is (λ rest.
          refl) rule c.loop.invariant.broken;
    })

pub returns : goal.returns
unfolding blocks_broken
returns c =
    let no_more : c.args.header.blocks - c.loop.counter ≡ 0 = omega arith in
    ends pair_layout _ c.loop.rest.now _ _ (blocks_broken c.args.header c.loop.previous c.loop.place) no_more refl
    c.loop.invariant.broken
