use Rattle.std.proofs.Common.{◌-◌, arith, refl}
use Rattle.ft_debug.proofs.Blocks.{counters_in_code}
use Rattle.ft_debug.proofs.code_places.place_of.Goals as goal

pub returns : goal.returns
returns g c =
    let o = g.P.Program.object c.args.program.now in
    let from = c.from.ensures in
    let counted = c.counts.ensures.instrs in
    counters_in_code o c.args.green c.args.blue (c.args.green - 1) c.place_in_block.result.block
    c.place_in_block.result.index (omega (arith, c.if-green-blue.false)) c.if-green-eq0.false
    (omega (arith, c.if-green-from.false)) refl c.place_in_block.ensures.block c.place_in_block.ensures.index
