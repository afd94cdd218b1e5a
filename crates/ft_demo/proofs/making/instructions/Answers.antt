use Rattle.ft_demo.proofs.Turns.{more_turns}
use Rattle.ft_demo.proofs.making.instructions.Goals as goal

pub loop-i-preserved : goal.loop-i-preserved
loop-i-preserved c = more_turns c.loop-i.code.items c.put_turn.new.code.items _ c.loop-i.i c.args.n c.loop-i-test.true
    c.in_ok-put_turn.ensures c.loop-i.invariant
