use Rattle.std.proofs.Common.{◌≤◌, length, refl, arith}
use Rattle.ft_asm.specs.Pieces.{cell_text}
use Rattle.ft_asm.proofs.WriteLaws.{line_goes, line_ends}
use Rattle.ft_asm.proofs.PieceLaws.{cell_at}
use Rattle.ft_asm.proofs.disassembly.put_cells.Goals as goal

pub loop-k-init : goal.loop-k-init
loop-k-init g c = refl

pub loop-k-preserved : goal.loop-k-preserved
loop-k-preserved g c =
    let all = (g.P.Program.object c.args.program.now).cells in
    let is = cell_at all c.loop-k.k c.cell-head.result c.name.result.now c.cell-head.ensures c.name.ensures in
    line_goes cell_text all c.loop-k.k _ c.loop-k.out.items c.put_cell.new.out.items _ is c.in_ok-put_cell.ensures
    c.loop-k.invariant

pub returns : goal.returns
returns g c =
    let all = (g.P.Program.object c.args.program.now).cells in
    let count = c.counts-count.ensures.cells in
    let past = c.loop-k-test.false in
    let le : length all ≤ c.loop-k.k = omega arith in
    line_ends cell_text all c.loop-k.k c.loop-k.out.items _ le c.loop-k.invariant
