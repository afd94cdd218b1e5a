use Rattle.std.proofs.Common.{drop}
use Rattle.ft_types.specs.Objects.{block_start}
use Rattle.ft_sched.specs.Arranged.{IsArranged}
use Rattle.ft_sched.specs.UpTo.{laid_before}
use Rattle.ft_sched.proofs.blocks.schedule_block.Given as goal

abbrev pub invariant-loop-i : goal.invariant-loop-i
invariant-loop-i g l = let o = g.P.Program.object l.program in
    IsArranged l.rows (block_start o l.b) l.past (laid_before o l.b l.fn.order.laid.items) (drop l.i o.instrs)
    l.order.laid.items l.order.waiting l.order.queued l.order.committed
