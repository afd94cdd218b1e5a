use Rattle.std.proofs.Common.{◌≡◌, ◌≤◌, ◌-◌, ◌+◌, ℕ, suc, length, slice_range, Option, sym, subst, ap, ◌∙◌, arith, Some}
use Rattle.std.proofs.Common.{take}
use Rattle.std.specs.Option.{option_map}
use Rattle.ft_typing.specs.Accepted.{walk, Refusal, Refused as refused_at}
use Rattle.ft_typing.specs.Premise.{Premise}
use Rattle.ft_static.specs.Form.{updates}
use Rattle.ft_typing.specs.Context.{start_context}
use Rattle.ft_contexts.specs.declared.context.Context.{Context}
use Rattle.ft_contexts.specs.Contexts.{context_in, pair_in}
use Rattle.ft_contexts.proofs.Kept.{keeps_itself}
use Rattle.ft_checker.specs.Judges.{IsRefusalOf, StopsAt}
use Rattle.std.proofs.lemmas.List.{length-map}
use Rattle.ft_norm.proofs.HeldForms.{keeps_both}
use Rattle.ft_types.specs.declared.object.Block.{Block}
use Rattle.ft_checker.specs.Costs.{instrs_cost}
use Rattle.ft_checker.proofs.Costs.{cost_more, cost_rises, rule_within}
use Rattle.ft_checker.proofs.Turned.{block_ends, none_left, walk_begins, walk_there, walk_past, block_walk, judges_stop}
use Rattle.ft_checker.proofs.blocks.check_block.Goals as goal

pub instr-instr-requires : goal.instr-instr-requires
instr-instr-requires g c =
    let e = block_ends (g.P.Program.object c.args.program.now) c.args.b c.block-block.result c.requires.spellable
    c.block-block.ensures in
    let p = c.end_of-past.ensures in
    let l = e.1 in
    omega arith

pub turn-requires-clause-instr : goal.turn-requires-clause-instr
turn-requires-clause-instr g c = record { index = c.loop-i.i; found = c.instr-instr.ensures }

pub loop-i-init : goal.loop-i-init
loop-i-init g c =
    let o = g.P.Program.object c.args.program.now in
    let fs = c.args.forms.now in
    let same : c.copy_from.new.self ≡ c.args.start.now.context = c.in_ok-copy_from.ensures in
    let k : context_in fs c.copy_from.new.self ≡ start_context o c.block-block.result.code_type =
    ap (context_in fs) same ∙ (c.requires.start.context
    ∙ ap (start_context o) (c.requires.code_type c.block-block.result c.block-block.ensures)) in
    let m = ap (λ (x : Context). updates (context_in fs x).memory) same in
    let q = ap (λ (x : Context). length (context_in fs x).queue) same in
    let n = length-map c.args.start.now.context.queue (pair_in fs) in
    record {
      kept = keeps_itself _;
      shared = c.requires.shared;
      held = rw same c.requires.start.held;
      types = rw same c.requires.start.types;
      from = omega arith;
      queue = omega (arith, n, q, c.requires.start.pending);
      memory = omega (arith, m, c.requires.start.count);
      steps = omega arith;
      left = walk_begins o c.args.b c.block-block.result c.end_of-past.result _ _ c.block-block.ensures
          c.end_of-past.ensures k (omega arith);
    }

pub loop-i-preserved : goal.loop-i-preserved
loop-i-preserved g c =
    let o = (g.P.Program.object c.args.program.now) in
    let k = c.loop-i.i - c.block-block.result.start in
    let others = slice_range o.instrs (c.loop-i.i + 1) c.end_of-past.result in
    let ends = block_ends o c.args.b c.block-block.result c.requires.spellable c.block-block.ensures in
    let past = c.end_of-past.ensures in
    let within : c.end_of-past.result ≤ length o.instrs = (let l = ends.1 in omega arith) in
    let left = none_left o.instrs (c.loop-i.i + 1) c.end_of-past.result (omega arith) within in
    let there = walk_there o (context_in c.loop-i.forms c.loop-i.context) k o.instrs c.loop-i.i c.end_of-past.result
    c.instr-instr.result c.loop-i-test.true c.instr-instr.ensures in
    let whole = sym there ∙ c.loop-i.invariant.left in
    let goes = rw c.if-ended.false at (c.in-Ok.ensures.turns k others (λ d. walk o d (suc k) others) left) in
    let n : c.loop-i.i + 1 - c.block-block.result.start ≡ suc k = omega arith in
    let so = g.P.Program.object c.args.program.now in
    let sends = block_ends so c.args.b c.block-block.result c.requires.spellable c.block-block.ensures in
    let spast = c.end_of-past.ensures in
    let slast = sends.1 in
    let sw = rule_within so (context_in c.loop-i.forms c.loop-i.context) c.instr-instr.result
    (omega (arith, c.loop-i.invariant.memory, c.loop-i-test.true, spast, slast)) c.loop-i.invariant.queue in
    let sm = cost_more so so.instrs c.loop-i.i c.instr-instr.result c.instr-instr.ensures in
    record {
      from = omega (arith, c.loop-i.invariant.from);
      queue = c.turn.ensures.grows.queue c.loop-i.invariant.queue;
      memory = omega (arith, c.turn.ensures.grows.memory, c.loop-i.invariant.memory);
      steps = omega (arith, c.turn.ensures.steps, c.loop-i.invariant.steps, sw, sm);
      kept = keeps_both _ _ _ c.loop-i.invariant.kept c.turn.ensures.kept;
      shared = c.turn.ensures.shared;
      held = c.turn.ensures.held;
      types = c.turn.ensures.types;
      left = ap (λ (m : ℕ). walk o (context_in c.turn.new.forms c.turn.new.context) m others) n ∙ sym goes ∙ whole;
    }

pub returns-in_err-copy_from-clause-judged : goal.returns-in_err-copy_from-clause-judged
returns-in_err-copy_from-clause-judged g c = λ x f. judges_stop _ _ c.from_residual.ensures.1

pub returns-in-Err-clause-judged : goal.returns-in-Err-clause-judged
returns-in-Err-clause-judged g c = λ x f.
    let o = (g.P.Program.object c.args.program.now) in
    let k = c.loop-i.i - c.block-block.result.start in
    let others = slice_range o.instrs (c.loop-i.i + 1) c.end_of-past.result in
    let ends = block_ends o c.args.b c.block-block.result c.requires.spellable c.block-block.ensures in
    let past = c.end_of-past.ensures in
    let within : c.end_of-past.result ≤ length o.instrs = (let l = ends.1 in omega arith) in
    let left = none_left o.instrs (c.loop-i.i + 1) c.end_of-past.result (omega arith) within in
    let there = walk_there o (context_in c.loop-i.forms c.loop-i.context) k o.instrs c.loop-i.i c.end_of-past.result
    c.instr-instr.result c.loop-i-test.true c.instr-instr.ensures in
    let whole = sym there ∙ c.loop-i.invariant.left in
    let stops = c.in-Err.ensures.turns k others (λ d. walk o d (suc k) others) left in
    let at = subst (λ (w : Option (ℕ × Premise)). StopsAt w k c.in-Err.error) whole stops in
    subst (λ (w : Option Refusal). IsRefusalOf w c.refused.result)
    (sym (block_walk o c.args.b x c.block-block.result f c.block-block.ensures)) (c.refused.ensures _ at)

pub returns-then-ended-clause-judged : goal.returns-then-ended-clause-judged
returns-then-ended-clause-judged g c = λ x f.
    let o = (g.P.Program.object c.args.program.now) in
    let k = c.loop-i.i - c.block-block.result.start in
    let others = slice_range o.instrs (c.loop-i.i + 1) c.end_of-past.result in
    let ends = block_ends o c.args.b c.block-block.result c.requires.spellable c.block-block.ensures in
    let past = c.end_of-past.ensures in
    let within : c.end_of-past.result ≤ length o.instrs = (let l = ends.1 in omega arith) in
    let left = none_left o.instrs (c.loop-i.i + 1) c.end_of-past.result (omega arith) within in
    let there = walk_there o (context_in c.loop-i.forms c.loop-i.context) k o.instrs c.loop-i.i c.end_of-past.result
    c.instr-instr.result c.loop-i-test.true c.instr-instr.ensures in
    let whole = sym there ∙ c.loop-i.invariant.left in
    let ended = rw c.if-ended.true at (c.in-Ok.ensures.turns k others (λ d. walk o d (suc k) others) left) in
    block_walk o c.args.b x c.block-block.result f c.block-block.ensures
    ∙ ap (option_map (λ r. refused_at c.args.b r.0 r.1)) (sym whole ∙ ended)

pub returns-clause-judged : goal.returns-clause-judged
returns-clause-judged g c = λ x f.
    let o = (g.P.Program.object c.args.program.now) in
    let ends = block_ends o c.args.b c.block-block.result c.requires.spellable c.block-block.ensures in
    let past = c.end_of-past.ensures in
    let first = ends.0 in
    let n : c.loop-i.i - c.block-block.result.start ≡ c.end_of-past.result - c.block-block.result.start = omega arith in
    let at = sym c.loop-i.invariant.left ∙ rw n (walk_past o (context_in c.loop-i.forms c.loop-i.context)
    (c.end_of-past.result - c.block-block.result.start) o.instrs c.loop-i.i c.end_of-past.result c.loop-i-test.false)
    in
    subst (λ (w : Option Refusal). IsRefusalOf w c.refused-2.result)
    (sym (block_walk o c.args.b x c.block-block.result f c.block-block.ensures)) (c.refused-2.ensures _ at)

pub overflow_sub-past : goal.overflow_sub-past
overflow_sub-past g c =
    let ends = block_ends (g.P.Program.object c.args.program.now) c.args.b c.block-block.result c.requires.spellable
    c.block-block.ensures in
    let past = c.end_of-past.ensures in
    let first = ends.0 in
    omega arith

pub returns-in-Err-clause-steps : goal.returns-in-Err-clause-steps
returns-in-Err-clause-steps g c = λ x f.
    let so = g.P.Program.object c.args.program.now in
    let ends = block_ends so c.args.b c.block-block.result c.requires.spellable c.block-block.ensures in
    let past = c.end_of-past.ensures in
    let last = ends.1 in
    let sw = rule_within so (context_in c.loop-i.forms c.loop-i.context) c.instr-instr.result
    (omega (arith, c.loop-i.invariant.memory, c.loop-i-test.true, past, last)) c.loop-i.invariant.queue in
    let sm = cost_more so so.instrs c.loop-i.i c.instr-instr.result c.instr-instr.ensures in
    let sb : x ≡ c.block-block.result = (let q : Some x ≡ Some c.block-block.result = sym f ∙ c.block-block.ensures in
    cc) in
    let ss = ap (λ (y : Block). instrs_cost so (take y.start so.instrs)) sb in
    let sp = ap (λ (n : ℕ). instrs_cost so (take n so.instrs)) past in
    let sr = cost_rises so so.instrs (c.loop-i.i + 1) c.end_of-past.result (omega (arith, c.loop-i-test.true)) in
    omega (arith, c.turn.ensures.steps, c.loop-i.invariant.steps, sw, sm, ss, sp, sr)

pub returns-then-ended-clause-steps : goal.returns-then-ended-clause-steps
returns-then-ended-clause-steps g c = λ x f.
    let so = g.P.Program.object c.args.program.now in
    let ends = block_ends so c.args.b c.block-block.result c.requires.spellable c.block-block.ensures in
    let past = c.end_of-past.ensures in
    let last = ends.1 in
    let sw = rule_within so (context_in c.loop-i.forms c.loop-i.context) c.instr-instr.result
    (omega (arith, c.loop-i.invariant.memory, c.loop-i-test.true, past, last)) c.loop-i.invariant.queue in
    let sm = cost_more so so.instrs c.loop-i.i c.instr-instr.result c.instr-instr.ensures in
    let sb : x ≡ c.block-block.result = (let q : Some x ≡ Some c.block-block.result = sym f ∙ c.block-block.ensures in
    cc) in
    let ss = ap (λ (y : Block). instrs_cost so (take y.start so.instrs)) sb in
    let sp = ap (λ (n : ℕ). instrs_cost so (take n so.instrs)) past in
    let sr = cost_rises so so.instrs (c.loop-i.i + 1) c.end_of-past.result (omega (arith, c.loop-i-test.true)) in
    omega (arith, c.turn.ensures.steps, c.loop-i.invariant.steps, sw, sm, ss, sp, sr)

pub returns-clause-steps : goal.returns-clause-steps
returns-clause-steps g c = λ x f.
    let so = g.P.Program.object c.args.program.now in
    let ends = block_ends so c.args.b c.block-block.result c.requires.spellable c.block-block.ensures in
    let past = c.end_of-past.ensures in
    let sb : x ≡ c.block-block.result = (let q : Some x ≡ Some c.block-block.result = sym f ∙ c.block-block.ensures in
    cc) in
    let ss = ap (λ (y : Block). instrs_cost so (take y.start so.instrs)) sb in
    let sp = ap (λ (n : ℕ). instrs_cost so (take n so.instrs)) past in
    let sr = cost_rises so so.instrs c.loop-i.i c.end_of-past.result (omega (arith, c.loop-i.auto.i-end, ends.0)) in
    omega (arith, c.loop-i.invariant.steps, ss, sp, sr)

pub returns-in_err-copy_from-clause-steps : goal.returns-in_err-copy_from-clause-steps
returns-in_err-copy_from-clause-steps g c = λ x f.
    let so = g.P.Program.object c.args.program.now in
    let ends = block_ends so c.args.b c.block-block.result c.requires.spellable c.block-block.ensures in
    let past = c.end_of-past.ensures in
    let sb : x ≡ c.block-block.result = (let q : Some x ≡ Some c.block-block.result = sym f ∙ c.block-block.ensures in
    cc) in
    let ss = ap (λ (y : Block). instrs_cost so (take y.start so.instrs)) sb in
    let sp = ap (λ (n : ℕ). instrs_cost so (take n so.instrs)) past in
    let sr = cost_rises so so.instrs c.block-block.result.start c.end_of-past.result (omega (arith, past, ends.0)) in
    omega (arith, ss, sp, sr)

pub returns-in-Err-clause-kept : goal.returns-in-Err-clause-kept
returns-in-Err-clause-kept g c = keeps_both _ _ _ c.loop-i.invariant.kept c.turn.ensures.kept

pub returns-then-ended-clause-kept : goal.returns-then-ended-clause-kept
returns-then-ended-clause-kept g c = keeps_both _ _ _ c.loop-i.invariant.kept c.turn.ensures.kept
