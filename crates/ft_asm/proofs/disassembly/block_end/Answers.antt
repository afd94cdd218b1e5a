use Rattle.std.proofs.Common.{◌+◌, ◌≤◌, length, ◌∙◌, arith}
use Rattle.ft_asm.proofs.PieceLaws.{begins_next, begins_last}
use Rattle.ft_asm.proofs.disassembly.block_end.Goals as goal

pub returns-then-b-counts : goal.returns-then-b-counts
returns-then-b-counts g c = let o = g.P.Program.object c.args.program.now in
    begins_next (length o.instrs) o.blocks (c.args.b + 1) c.block.result c.block.ensures

pub returns-else-b-counts : goal.returns-else-b-counts
returns-else-b-counts g c =
    let o = g.P.Program.object c.args.program.now in
    let count = c.counts-counts.ensures.blocks in
    let past = c.if-b-counts.false in
    let le : length o.blocks ≤ c.args.b + 1 = omega arith in
    c.counts-counts.ensures.instrs ∙ begins_last (length o.instrs) o.blocks (c.args.b + 1) le
