use Rattle.std.proofs.Common.{◌≡◌, ◌+◌, ◌-◌, ℕ, suc, None, List, refl, ap, ◌∙◌, arith, take, Some}
use Rattle.std.proofs.lemmas.List.{length-drop}
use Rattle.std.proofs.lemmas.Result.{err_from_is_err_and}
use Rattle.ft_format.specs.Layout.{numbers, type_layout}
use Rattle.ft_format.specs.Fields.{type_numbers}
use Rattle.ft_format.specs.Rules.{type_broken}
use Rattle.ft_format.specs.Broken.{types_broken}
use Rattle.ft_format.proofs.Loops.{goes, stops, ends}
use Rattle.ft_view.proofs.code_type.check_types.Goals as goal

pub returns-in_err-check_type : goal.returns-in_err-check_type
unfolding types_broken
returns-in_err-check_type c =
    let one_more : c.args.header.types - c.loop.counter ≡ suc (c.args.header.types - (c.loop.counter + 1)) =
    omega arith in
    let bs = c.loop.rest.now in
    let row : List ℕ = type_numbers c.read-row.result in
    let is : row ≡ numbers type_layout (take 16 bs) = c.read-row.ensures
    ∙ ap (numbers type_layout) c.split_at.ensures.front in
    let rule : (type_broken c.args.header c.args.nodes.now c.loop.regs c.loop.queue c.loop.place row)
    ≡ Some c.in_err-check_type.field-0.0 = c.in_err-check_type.ensures.judged in
    let p = err_from_is_err_and c.from_residual.result c.from_residual.ensures.1 in
    rw (p.1, p.2) (stops type_layout _ _ bs row (type_broken c.args.header c.args.nodes.now c.loop.regs c.loop.queue
    c.loop.place row) _ c.in_err-check_type.field-0.0
    (types_broken c.args.header c.args.nodes.now c.loop.regs c.loop.queue c.loop.place)
    (types_broken c.args.header c.args.nodes.now c.read-row.result.regs c.read-row.result.queue (c.loop.place + 16))
    one_more is (λ rest. refl) rule c.loop.invariant.broken)

pub loop-preserved : goal.loop-preserved
unfolding types_broken
loop-preserved c =
    let one_more : c.args.header.types - c.loop.counter ≡ suc (c.args.header.types - (c.loop.counter + 1)) =
    omega arith in
    let bs = c.loop.rest.now in
    let row : List ℕ = type_numbers c.read-row.result in
    let is : row ≡ numbers type_layout (take 16 bs) = c.read-row.ensures
    ∙ ap (numbers type_layout) c.split_at.ensures.front in
    let rule : (type_broken c.args.header c.args.nodes.now c.loop.regs c.loop.queue c.loop.place row)
    ≡ None = c.in_ok-check_type.ensures.judged in
    rw c.split_at.ensures.back (record {
      there = omega (arith, length-drop 16 bs);
      places = omega arith;
      queue = c.in_ok-check_type.ensures.ends;
      broken = goes type_layout _ _ bs row (type_broken c.args.header c.args.nodes.now c.loop.regs c.loop.queue
          c.loop.place row) _ (types_broken c.args.header c.args.nodes.now c.loop.regs c.loop.queue c.loop.place)
          (types_broken c.args.header c.args.nodes.now c.read-row.result.regs c.read-row.result.queue
          (c.loop.place + 16))
          one_more is (λ rest. refl) rule c.loop.invariant.broken;
    })

pub returns : goal.returns
unfolding types_broken
returns c =
    let no_more : c.args.header.types - c.loop.counter ≡ 0 = omega arith in
    ends type_layout _ c.loop.rest.now _ _ (types_broken c.args.header c.args.nodes.now c.loop.regs c.loop.queue
    c.loop.place) no_more refl c.loop.invariant.broken
