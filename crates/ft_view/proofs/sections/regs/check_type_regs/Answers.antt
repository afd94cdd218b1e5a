use Rattle.std.proofs.Common.{◌≡◌, ◌+◌, ◌-◌, ℕ, suc, None, Some, List, refl, ap, ◌∙◌, arith, take}
use Rattle.std.proofs.lemmas.List.{length-drop}
use Rattle.std.proofs.lemmas.Result.{err_from_is_err_and}
use Rattle.ft_format.specs.Layout.{numbers, reg_layout}
use Rattle.ft_format.specs.Fields.{reg_numbers}
use Rattle.ft_format.specs.Rules.{reg_broken}
use Rattle.ft_format.specs.Broken.{type_regs_broken}
use Rattle.ft_format.proofs.Loops.{goes, stops, ends, past_more}
use Rattle.ft_view.proofs.sections.regs.check_type_regs.Goals as goal

pub returns-in_err-check_reg-clause-judged : goal.returns-in_err-check_reg-clause-judged
unfolding type_regs_broken
returns-in_err-check_reg-clause-judged c =
    let one_more : c.args.count - c.loop.counter ≡ suc (c.args.count - (c.loop.counter + 1)) = omega arith in
    let bs = c.loop.rest.now in
    let row : List ℕ = reg_numbers c.read-row.result in
    let is : row ≡ numbers reg_layout (take 12 bs) = c.read-row.ensures
    ∙ ap (numbers reg_layout) c.split_at.ensures.front in
    let rule : (reg_broken c.args.types c.args.nodes.now c.args.ints c.loop.least c.loop.place row)
    ≡ Some c.in_err-check_reg.field-0.0 = c.in_err-check_reg.ensures.judged in
    let p = err_from_is_err_and c.from_residual.result c.from_residual.ensures.1 in
    rw (p.1, p.2) (stops reg_layout _ _ bs row (reg_broken c.args.types c.args.nodes.now c.args.ints c.loop.least
    c.loop.place row) _ c.in_err-check_reg.field-0.0
    (type_regs_broken c.args.types c.args.nodes.now c.args.ints c.loop.least c.loop.place)
    (type_regs_broken c.args.types c.args.nodes.now c.args.ints (c.read-row.result.reg + 1) (c.loop.place + 12))
    one_more is (λ rest. refl) rule c.loop.invariant.broken)

pub loop-preserved : goal.loop-preserved
unfolding type_regs_broken
loop-preserved c =
    let one_more : c.args.count - c.loop.counter ≡ suc (c.args.count - (c.loop.counter + 1)) = omega arith in
    let bs = c.loop.rest.now in
    let row : List ℕ = reg_numbers c.read-row.result in
    let is : row ≡ numbers reg_layout (take 12 bs) = c.read-row.ensures
    ∙ ap (numbers reg_layout) c.split_at.ensures.front in
    let rule : (reg_broken c.args.types c.args.nodes.now c.args.ints c.loop.least c.loop.place row)
    ≡ None = c.in_ok-check_reg.ensures.judged in
    rw (c.split_at.ensures.back) (record {
      there = omega (arith, length-drop 12 bs);
      places = omega arith;
      least = omega (arith, c.in_ok-check_reg.ensures.small);
      rest = past_more 12 c.loop.counter c.args.bytes.now bs c.loop.invariant.rest;
      broken = goes reg_layout _ _ bs row (reg_broken c.args.types c.args.nodes.now c.args.ints c.loop.least
          c.loop.place row) _ (type_regs_broken c.args.types c.args.nodes.now c.args.ints c.loop.least c.loop.place)
          (type_regs_broken c.args.types c.args.nodes.now c.args.ints (c.read-row.result.reg + 1) (c.loop.place + 12))
          one_more is (λ rest. refl) rule c.loop.invariant.broken;
    })

pub returns-clause-judged : goal.returns-clause-judged
unfolding type_regs_broken
returns-clause-judged c =
    let no_more : c.args.count - c.loop.counter ≡ 0 = omega arith in
    ends reg_layout _ c.loop.rest.now _ _ (type_regs_broken c.args.types c.args.nodes.now c.args.ints c.loop.least
    c.loop.place) no_more refl c.loop.invariant.broken
