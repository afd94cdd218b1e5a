use Rattle.ft_compile.proofs.Turns.{nodes_more}
use Rattle.ft_compile.proofs.notes.Notes.new.Goals as goal

pub loop-i-preserved : goal.loop-i-preserved
loop-i-preserved c = nodes_more _ _ _ _ _ c.in_ok-push-2.ensures.items c.loop-i.invariant
