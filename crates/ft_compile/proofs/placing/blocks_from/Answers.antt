use Rattle.ft_compile.proofs.Turns.{blocks_end}
use Rattle.ft_compile.proofs.placing.blocks_from.Goals as goal

pub returns : goal.returns
returns c = blocks_end c.loop-start.blocks.items c.args.starts.now c.loop-start.code_type c.loop-start.start-index
    c.loop-start-test.false c.loop-start.invariant
