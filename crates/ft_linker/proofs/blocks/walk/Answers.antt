use Rattle.std.proofs.Common.{◌≡◌, ℕ, ◌-◌, sym, ap, ◌∙◌, arith}
use Rattle.std.specs.Prelude.{slice_range}
use Rattle.std.specs.FinMap as finite
use Rattle.ft_modules.specs.CodeWalk.{code_walk, entered_after}
use Rattle.ft_linker.proofs.Walks.{walk_next, walk_stop, walk_over}
use Rattle.ft_linker.proofs.blocks.walk.Goals as goal

pub loop-i-init : goal.loop-i-init
loop-i-init c =
    let none : 0 ≡ c.args.first - c.args.first = omega arith in
    record {
      entered = finite.empty;
      stands = c.new-traced.ensures;
      same = ap (λ (k : ℕ). code_walk c.args.object.now finite.empty k
          (slice_range c.args.object.now.instrs c.args.first c.args.past)) none;
    }

pub loop-i-preserved : goal.loop-i-preserved
loop-i-preserved c =
    let v = c.loop-i.invariant in
    record {
      entered = entered_after c.at-instr.result.now v.entered;
      stands = c.pass.ensures v.entered v.stands;
      same = v.same ∙ walk_next c.args.object.now v.entered c.args.first c.loop-i.i c.args.past c.at-instr.result.now
          c.at-instr.ensures c.loop-i-test.true c.loop-i.auto.i (sym (c.if-not-is_traced.ensures v.entered v.stands));
    }

pub returns-then-not-is_traced : goal.returns-then-not-is_traced
returns-then-not-is_traced c =
    let v = c.loop-i.invariant in
    sym (v.same ∙ walk_stop c.args.object.now v.entered (c.loop-i.i - c.args.first) c.loop-i.i c.args.past
    c.at-instr.result.now c.at-instr.ensures c.loop-i-test.true (sym (c.if-not-is_traced.ensures v.entered v.stands)))

pub returns : goal.returns
returns c =
    let v = c.loop-i.invariant in
    sym (v.same ∙ walk_over c.args.object.now v.entered (c.loop-i.i - c.args.first) c.loop-i.i c.args.past
    c.loop-i-test.false)
