use Rattle.std.proofs.Common.{refl, arith}
use Rattle.ft_asm.specs.Pieces.{row_text}
use Rattle.ft_asm.proofs.PieceLaws.{range_goes, range_ends}
use Rattle.ft_asm.proofs.code_lines.put_rows.Goals as goal

pub loop-n-init : goal.loop-n-init
loop-n-init g c = refl

pub loop-n-preserved : goal.loop-n-preserved
loop-n-preserved g c =
    let o = g.P.Program.object c.args.program.now in
    range_goes row_text o.substs c.loop-n.n c.args.subst.past c.subst_row.result c.loop-n.out.items
    c.put_row.new.out.items _ c.loop-n-test.true c.subst_row.ensures c.in_ok-put_row.ensures c.loop-n.invariant

pub returns : goal.returns
returns g c =
    let o = g.P.Program.object c.args.program.now in
    range_ends row_text o.substs c.loop-n.n c.args.subst.past c.loop-n.out.items _ (omega (arith, c.loop-n-test.false))
    c.loop-n.invariant
