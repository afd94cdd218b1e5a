use Rattle.std.proofs.Common.{sym, ◌∙◌, arith}
use Rattle.ft_types.specs.Objects.{block_start}
use Rattle.ft_exchange.proofs.BlockRanges.{start_is}
use Rattle.ft_sched.proofs.Laying.{on_one}
use Rattle.ft_sched.proofs.Whole.{of_block}
use Rattle.ft_sched.proofs.UpTo.{block_begun, block_on, block_done}
use Rattle.ft_sched.proofs.blocks.schedule_block.Goals as goal

pub loop-i-init : goal.loop-i-init
loop-i-init g c =
    let o = g.P.Program.object c.args.program.now in
    let f = of_block o c.args.b c.block-block.result c.end_of-past.result c.code_type-rows.result c.requires.spellable
    c.block-block.ensures c.end_of-past.ensures c.code_type-rows.ensures in
    let new = c.begin_block.new.self in
    block_begun o c.requires.spellable c.args.b (block_start o c.args.b) c.end_of-past.result
    c.code_type-rows.result.queue f c.args.order.now.laid.items c.requires.before
    new.laid.items new.waiting new.queued new.committed c.block-block.result.start
    c.begin_block.ensures.laid (c.begin_block.ensures.waiting ∙ c.requires.none_waits) c.begin_block.ensures.queued
    c.begin_block.ensures.committed (sym (start_is o c.args.b c.block-block.result c.block-block.ensures))

pub instr-requires : goal.instr-requires
instr-requires g c =
    let o = g.P.Program.object c.args.program.now in
    let f = of_block o c.args.b c.block-block.result c.end_of-past.result c.code_type-rows.result c.requires.spellable
    c.block-block.ensures c.end_of-past.ensures c.code_type-rows.ensures in
    let l = f.past_few in
    omega (arith, l, c.loop-i-test.true)

pub loop-i-preserved : goal.loop-i-preserved
loop-i-preserved g c =
    let o = g.P.Program.object c.args.program.now in
    let f = of_block o c.args.b c.block-block.result c.end_of-past.result c.code_type-rows.result c.requires.spellable
    c.block-block.ensures c.end_of-past.ensures c.code_type-rows.ensures in
    let old = c.loop-i.order in
    let new = c.place.new.self in
    block_on o c.requires.spellable c.args.b (block_start o c.args.b) c.end_of-past.result c.code_type-rows.result.queue
    f c.args.order.now.laid.items c.requires.before
    c.loop-i.i c.instr.result old.laid.items old.waiting new.laid.items new.waiting old.queued old.committed new.queued
    new.committed
    c.loop-i-test.true c.instr.ensures c.in_ok-place.ensures c.loop-i.invariant

pub returns-clause-after : goal.returns-clause-after
returns-clause-after g c =
    let o = g.P.Program.object c.args.program.now in
    let f = of_block o c.args.b c.block-block.result c.end_of-past.result c.code_type-rows.result c.requires.spellable
    c.block-block.ensures c.end_of-past.ensures c.code_type-rows.ensures in
    let begins = start_is o c.args.b c.block-block.result c.block-block.ensures in
    let old = c.loop-i.order in
    let new = c.lay_all.new.self in
    on_one c.lay_all.result
    (λ all. block_done o c.requires.spellable c.args.b (block_start o c.args.b) c.end_of-past.result
    c.code_type-rows.result.queue f c.args.order.now.laid.items c.requires.before
    c.loop-i.i old.laid.items old.waiting new.laid.items old.queued old.committed new.queued new.committed
    c.loop-i-test.false (λ h. c.loop-i.auto.i-end (omega (arith, h, begins))) all c.loop-i.invariant)
    c.lay_all.ensures.lays
