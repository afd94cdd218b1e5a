use Rattle.std.proofs.Common.{refl, arith}
use Rattle.ft_asm.specs.Pieces.{instr_text}
use Rattle.ft_asm.proofs.PieceLaws.{rows_there, range_goes, range_ends}
use Rattle.ft_asm.proofs.disassembly.put_codes.Goals as goal

pub put_code-requires : goal.put_code-requires
put_code-requires g c = rows_there (g.P.Program.object c.args.program.now) c.requires.spellable c.loop-i.i
    c.instr.result c.instr.ensures

pub loop-i-init : goal.loop-i-init
loop-i-init g c = refl

pub loop-i-preserved : goal.loop-i-preserved
loop-i-preserved g c =
    let o = g.P.Program.object c.args.program.now in
    range_goes (instr_text o.substs) o.instrs c.loop-i.i c.args.end c.instr.result c.loop-i.out.items
    c.put_code.new.out.items _ c.loop-i-test.true c.instr.ensures c.in_ok-put_code.ensures c.loop-i.invariant

pub returns : goal.returns
returns g c =
    let o = g.P.Program.object c.args.program.now in
    range_ends (instr_text o.substs) o.instrs c.loop-i.i c.args.end c.loop-i.out.items _
    (omega (arith, c.loop-i-test.false)) c.loop-i.invariant
