use Rattle.ft_asm.proofs.WriteLaws.{refs_goes}
use Rattle.ft_asm.proofs.writing.put_basic.Goals as goal

pub loop-preserved : goal.loop-preserved
loop-preserved c = refs_goes c.args.basic.refs c.loop.counter c.args.basic.base c.loop.out.items c.put.new.out.items _
    c.loop-test.true c.in_ok-put.ensures c.loop.invariant
