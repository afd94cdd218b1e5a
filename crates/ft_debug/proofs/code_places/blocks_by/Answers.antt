use Rattle.std.proofs.Common.{◌∙◌, arith}
use Rattle.std.proofs.lemmas.Bool.{le-leb}
use Rattle.ft_debug.specs.Sessions.{begins_by}
use Rattle.ft_debug.proofs.Blocks.{counted_yes, counted_no}
use Rattle.ft_debug.proofs.code_places.blocks_by.Goals as goal
use Rattle.ft_debug.proofs.code_places.blocks_by.Goals.{then-block-i, else-block-i}

pub loop-b-preserved : goal.loop-b-preserved
loop-b-preserved g c =
    let o = g.P.Program.object c.args.program.now in
    elim c.if-block-i.branch [
      | then-block-i w ↦ w.count-is ∙ counted_yes (begins_by c.args.i) o.blocks c.loop-b.b c.loop-b.count c.block.result
          c.block.ensures (le-leb _ _ w.if-block-i.true) c.loop-b.invariant
      | else-block-i w ↦ w.count-is ∙ counted_no (begins_by c.args.i) o.blocks c.loop-b.b c.loop-b.count c.block.result
          c.block.ensures (grind (arith, w.if-block-i.false)) c.loop-b.invariant
    ]
