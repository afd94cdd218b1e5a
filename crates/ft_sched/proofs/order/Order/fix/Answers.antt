use Rattle.ft_sched.proofs.Laying.{fixed_laid, on_both}
use Rattle.ft_sched.proofs.order.Order.fix.Goals as goal

pub returns : goal.returns
returns c =
    let x = c.args.self.now in
    let y = c.lay_all.new.self in
    let z = c.lay.new.self in
    on_both c.lay.result
    (λ lays same. fixed_laid c.args.instr x.laid.items x.waiting y.laid.items y.waiting z.laid.items z.waiting x.queued
    x.committed y.queued y.committed z.queued z.committed c.requires c.in_ok-lay_all.ensures.lays
    c.in_ok-lay_all.ensures.waiting lays same)
    c.lay.ensures.lays c.lay.ensures.waiting
