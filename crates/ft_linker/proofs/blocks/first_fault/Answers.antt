use Rattle.std.proofs.Common.{◌<◌, ◌≤◌, length, sym, ◌∙◌, arith}
use Rattle.ft_linker.proofs.Walks.{block_next_fault, block_fault, no_block_fault}
use Rattle.ft_linker.proofs.blocks.first_fault.Goals as goal

pub loop-b-preserved : goal.loop-b-preserved
loop-b-preserved c =
    let below : c.loop-b.b < length c.args.object.now.blocks = omega (arith, c.len-b-end.ensures, c.loop-b-test.true) in
    c.loop-b.invariant ∙ block_next_fault c.args.object.now c.loop-b.b c.block_range-first.result.0
    c.block_range-first.result.1 below c.block_range-first.ensures.first c.block_range-first.ensures.past
    (sym c.in_default.ensures)

pub returns-in-Some : goal.returns-in-Some
returns-in-Some c =
    let below : c.loop-b.b < length c.args.object.now.blocks = omega (arith, c.len-b-end.ensures, c.loop-b-test.true) in
    sym (c.loop-b.invariant ∙ block_fault c.args.object.now c.loop-b.b c.block_range-first.result.0
    c.block_range-first.result.1 c.in-Some.index below c.block_range-first.ensures.first
    c.block_range-first.ensures.past (sym c.in-Some.ensures))

pub returns : goal.returns
returns c =
    let all : length c.args.object.now.blocks ≤ c.loop-b.b = omega (arith, c.len-b-end.ensures, c.loop-b-test.false) in
    sym (c.loop-b.invariant ∙ no_block_fault c.args.object.now c.loop-b.b all)
