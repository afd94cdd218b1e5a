use Rattle.std.proofs.Common.{◌∙◌}
use Rattle.ft_linker.proofs.JoinedBlocks.{stub_many, stub_one}
use Rattle.ft_linker.proofs.lines.is_stub.Goals as goal

pub returns-then-not-is_one : goal.returns-then-not-is_one
returns-then-not-is_one c =
    let r = c.block_range-first in
    stub_many c.args.object.now c.args.b r.result.0 r.result.1 r.ensures.first r.ensures.past r.ensures.some
    r.ensures.within c.if-not-is_one.true

pub returns : goal.returns
returns c =
    let r = c.block_range-first in
    c.is_halt.ensures ∙ stub_one c.args.object.now c.args.b r.result.0 r.result.1 c.at-instr.result.now r.ensures.first
    r.ensures.past c.if-not-is_one.false c.at-instr.ensures
