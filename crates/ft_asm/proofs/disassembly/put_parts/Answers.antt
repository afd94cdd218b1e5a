use Rattle.std.proofs.Common.{◌<◌, ◌≤◌, length, refl, arith}
use Rattle.ft_isa.proofs.Lists.{there_below}
use Rattle.ft_asm.proofs.PieceLaws.{part_goes, part_ends}
use Rattle.ft_asm.proofs.disassembly.put_parts.Goals as goal

pub loop-b-init : goal.loop-b-init
loop-b-init g c = refl

pub loop-b-preserved : goal.loop-b-preserved
loop-b-preserved g c =
    let o = g.P.Program.object c.args.program.now in
    let count = c.counts-count.ensures.blocks in
    let before = c.loop-b-test.true in
    let lt : c.loop-b.b < length o.blocks = omega arith in
    let x = there_below o.blocks c.loop-b.b lt in
    part_goes o c.loop-b.b x.0 c.loop-b.out.items c.put_part.new.out.items _ x.1 (c.in_ok-put_part.ensures x.0 x.1)
    c.loop-b.invariant

pub returns : goal.returns
returns g c =
    let o = g.P.Program.object c.args.program.now in
    let count = c.counts-count.ensures.blocks in
    let past = c.loop-b-test.false in
    let le : length o.blocks ≤ c.loop-b.b = omega arith in
    part_ends o c.loop-b.b c.loop-b.out.items _ le c.loop-b.invariant
