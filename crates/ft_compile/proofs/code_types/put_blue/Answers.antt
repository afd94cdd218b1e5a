use Rattle.std.proofs.Common.{arith}
use Rattle.ft_compile.proofs.Turns.{blue_more}
use Rattle.ft_compile.proofs.code_types.put_blue.Goals as goal

pub loop-i-preserved : goal.loop-i-preserved
loop-i-preserved c = blue_more _ _ _ _ _ _ c.in_ok-push.ensures.items c.loop-i.invariant c.blue_register.ensures
    (omega (arith, c.from.ensures))
