use Rattle.std.proofs.Common.{◌≤◌, length, refl, arith}
use Rattle.ft_types.specs.Objects.{reg_rows}
use Rattle.ft_asm.specs.Pieces.{reg_text}
use Rattle.ft_asm.proofs.WriteLaws.{line_goes, line_ends}
use Rattle.ft_asm.proofs.disassembly.put_regs.Goals as goal

pub loop-j-init : goal.loop-j-init
loop-j-init g c = refl

pub loop-j-preserved : goal.loop-j-preserved
loop-j-preserved g c =
    line_goes reg_text (reg_rows (g.P.Program.object c.args.program.now) c.args.t) c.loop-j.j c.reg_row.result
    c.loop-j.out.items c.put_reg_row.new.out.items _ c.reg_row.ensures c.in_ok-put_reg_row.ensures c.loop-j.invariant

pub returns : goal.returns
returns g c =
    let all = reg_rows (g.P.Program.object c.args.program.now) c.args.t in
    let count = c.requires.count in
    let past = c.loop-j-test.false in
    let le : length all ≤ c.loop-j.j = omega arith in
    line_ends reg_text all c.loop-j.j c.loop-j.out.items _ le c.loop-j.invariant
