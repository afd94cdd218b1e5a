use Rattle.ft_sched.proofs.Laying.{first_laid}
use Rattle.ft_sched.proofs.order.Order.lay_all.Goals as goal

pub loop-self-preserved : goal.loop-self-preserved
loop-self-preserved c = λ rows start past base rest a.
    first_laid rows start past base rest c.loop-self.self.laid.items c.lay_first.new.self.laid.items
    c.loop-self.self.waiting c.lay_first.new.self.waiting c.loop-self.self.queued c.lay_first.new.self.queued
    c.loop-self.self.committed c.lay_first.new.self.committed
    c.in_ok-lay_first.ensures (c.loop-self.invariant rows start past base rest a)
