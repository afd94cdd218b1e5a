use Rattle.std.proofs.Common.{◌<◌, ◌≤◌, length, refl, arith}
use Rattle.ft_isa.proofs.Lists.{there_below}
use Rattle.ft_asm.specs.Pieces.{type_text}
use Rattle.ft_asm.proofs.WriteLaws.{line_goes, line_ends}
use Rattle.ft_asm.proofs.disassembly.put_types.Goals as goal

pub loop-t-init : goal.loop-t-init
loop-t-init g c = refl

pub loop-t-preserved : goal.loop-t-preserved
loop-t-preserved g c =
    let all = (g.P.Program.object c.args.program.now).types in
    let count = c.counts-count.ensures.types in
    let before = c.loop-t-test.true in
    let lt : c.loop-t.t < length all = omega arith in
    let u = there_below all c.loop-t.t lt in
    line_goes type_text all c.loop-t.t u.0 c.loop-t.out.items c.put_code_type.new.out.items _ u.1
    (c.in_ok-put_code_type.ensures u.0 u.1) c.loop-t.invariant

pub returns : goal.returns
returns g c =
    let all = (g.P.Program.object c.args.program.now).types in
    let count = c.counts-count.ensures.types in
    let past = c.loop-t-test.false in
    let le : length all ≤ c.loop-t.t = omega arith in
    line_ends type_text all c.loop-t.t c.loop-t.out.items _ le c.loop-t.invariant
