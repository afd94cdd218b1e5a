use Rattle.std.proofs.Common.{ℕ, suc, ◌≡◌, ◌+◌, ◌*◌, ◌≤◌, length, take, ap, sym, ◌∙◌, arith, refl, subst, Some}
use Rattle.ft_typing.specs.Accepted.{block_refusal}
use Rattle.std.proofs.Math.Nat.{mul-le-mul_right}
use Rattle.ft_isa.proofs.Lists.{all_there}
use Rattle.ft_types.specs.Objects.{block_end}
use Rattle.ft_checker.specs.Costs.{instrs_cost, visit_cost}
use Rattle.ft_checker.proofs.Costs.{begins, begins_there, cost_all, none_cost, start_within}
use Rattle.ft_types.specs.declared.object.Block.{Block}
use Rattle.ft_types.specs.Spellable.{HasCodeType}
use Rattle.ft_checker.proofs.Turned.{last_kept, first_turn, first_end, block_there, or_refused, judges_exit}
use Rattle.ft_checker.proofs.Turned.{judges_stop}
use Rattle.ft_checker.specs.Judges.{IsStartOf}
use Rattle.ft_checker.proofs.blocks.check_blocks.Goals as goal

pub returns-in_err-check_block-clause-judged : goal.returns-in_err-check_block-clause-judged
returns-in_err-check_block-clause-judged g c =
    let x = block_there (g.P.Program.object c.args.program.now).blocks c.loop-b.b (omega arith) in
    judges_exit _ _ _ _ c.from_residual-in_err-check_block.ensures.1 (sym c.loop-b.invariant.left
    ∙ first_turn (block_refusal (g.P.Program.object c.args.program.now)) c.loop-b.b
    (g.P.Program.object c.args.program.now).blocks x.0 x.1)
    (or_refused _ _ _ (c.in_err-check_block.ensures.judged x.0 x.1))

pub returns-clause-judged : goal.returns-clause-judged
returns-clause-judged g c = sym c.loop-b.invariant.left
    ∙ first_end (block_refusal (g.P.Program.object c.args.program.now)) c.loop-b.b
    (g.P.Program.object c.args.program.now).blocks (omega arith)

pub returns-in_err-check_block-clause-steps : goal.returns-in_err-check_block-clause-steps
returns-in_err-check_block-clause-steps g c =
    let o = g.P.Program.object c.args.program.now in
    let x = block_there o.blocks c.loop-b.b (omega arith) in
    let e = ap (λ (n : ℕ). instrs_cost o (take n o.instrs)) (begins_there o c.loop-b.b x.0 c.requires x.1) in
    let s = c.check_block.ensures.steps x.0 x.1 in
    let w = start_within o (g.M.Meter.counted c.loop-b.meter) (g.M.Meter.counted c.renew.new.meter)
    c.renew.ensures.steps in
    let m : (c.loop-b.b + 1) * visit_cost o ≡ c.loop-b.b * visit_cost o + visit_cost o = omega arith in
    let a = cost_all o o.instrs (block_end o c.loop-b.b) in
    let k : (c.loop-b.b + 1) * visit_cost o ≤ length o.blocks * visit_cost o =
    mul-le-mul_right (visit_cost o) (omega arith) in
    omega (arith, e, s, w, m, a, k, c.loop-b.invariant.steps)

pub returns-clause-steps : goal.returns-clause-steps
returns-clause-steps g c =
    let o = g.P.Program.object c.args.program.now in
    let a = cost_all o o.instrs (begins o c.loop-b.b) in
    let k : c.loop-b.b * visit_cost o ≤ length o.blocks * visit_cost o =
    mul-le-mul_right (visit_cost o) (omega arith) in
    omega (arith, a, k, c.loop-b.invariant.steps)

pub loop-b-preserved : goal.loop-b-preserved
loop-b-preserved g c =
    let o = g.P.Program.object c.args.program.now in
    let x = block_there o.blocks c.loop-b.b (omega arith) in
    let e = ap (λ (n : ℕ). instrs_cost o (take n o.instrs)) (begins_there o c.loop-b.b x.0 c.requires x.1) in
    let s = c.check_block.ensures.steps x.0 x.1 in
    let w = start_within o (g.M.Meter.counted c.loop-b.meter) (g.M.Meter.counted c.renew.new.meter)
    c.renew.ensures.steps in
    let m : (c.loop-b.b + 1) * visit_cost o ≡ c.loop-b.b * visit_cost o + visit_cost o = omega arith in
    let n : c.loop-b.b + 1 ≡ suc c.loop-b.b = omega arith in
    let z = ap (λ (k : ℕ). instrs_cost o (take (begins o k) o.instrs)) n in
    let y = block_there (g.P.Program.object c.args.program.now).blocks c.loop-b.b (omega arith) in
    let turn = first_turn (block_refusal (g.P.Program.object c.args.program.now)) c.loop-b.b
    (g.P.Program.object c.args.program.now).blocks y.0 y.1 in
    let passed = c.in_ok-check_block.ensures.judged y.0 y.1 in
    record {
      shared = c.check_block.ensures.shared;
      start = last_kept o c.renew.new.forms c.check_block.new.forms c.renew.new.last c.check_block.ensures.kept
          c.in_ok-renew.ensures.start;
      left = sym (rw passed at turn) ∙ c.loop-b.invariant.left;
      steps = omega (arith, e, s, w, m, z, c.loop-b.invariant.steps);
    }

pub block-t-requires : goal.block-t-requires
block-t-requires g c = omega arith

pub renew-requires-clause-there : goal.renew-requires-clause-there
renew-requires-clause-there g c =
    let o = g.P.Program.object c.args.program.now in
    all_there (HasCodeType (length o.types)) o.blocks c.loop-b.b c.block-t.result c.requires.block_types
    c.block-t.ensures

pub check_block-requires-clause-code_type : goal.check_block-requires-clause-code_type
check_block-requires-clause-code_type g c = λ x f.
    let o = g.P.Program.object c.args.program.now in
    let same : c.block-t.result ≡ x = (let q : Some c.block-t.result ≡ Some x = sym c.block-t.ensures ∙ f in cc) in
    subst (IsStartOf c.block-t.result.code_type) c.in-Some.is c.in_ok-renew.ensures.code_type
    ∙ ap (λ (y : Block). y.code_type) same

pub returns-in_err-renew-clause-steps : goal.returns-in_err-renew-clause-steps
returns-in_err-renew-clause-steps g c =
    let o = g.P.Program.object c.args.program.now in
    let w = start_within o (g.M.Meter.counted c.loop-b.meter) (g.M.Meter.counted c.renew.new.meter)
    c.renew.ensures.steps in
    let m : (c.loop-b.b + 1) * visit_cost o ≡ c.loop-b.b * visit_cost o + visit_cost o = omega arith in
    let a = cost_all o o.instrs (begins o c.loop-b.b) in
    let k : (c.loop-b.b + 1) * visit_cost o ≤ length o.blocks * visit_cost o =
    mul-le-mul_right (visit_cost o) (omega arith) in
    omega (arith, w, m, a, k, c.loop-b.invariant.steps)

pub loop-b-init : goal.loop-b-init
loop-b-init g c = let o = g.P.Program.object c.args.program.now in
    record {
      shared = c.in_ok-shared.ensures.shared o;
      start = tt;
      left = refl;
      steps = (let w = none_cost o in omega (arith, w));
    }

pub returns-in_err-renew-clause-judged : goal.returns-in_err-renew-clause-judged
returns-in_err-renew-clause-judged g c = judges_stop _ _ c.from_residual-in_err-renew.ensures.1

pub returns-in_err-context-clause-judged : goal.returns-in_err-context-clause-judged
returns-in_err-context-clause-judged g c = judges_stop _ _ c.from_residual-in_err-context.ensures.1
