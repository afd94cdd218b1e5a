use Rattle.std.proofs.Common.{sym, ◌∙◌}
use Rattle.ft_sched.proofs.Laying.{trailing_waits, on_one}
use Rattle.ft_sched.proofs.order.Order.place.Goals as goal

pub returns : goal.returns
returns c =
    let x = c.args.self.now in
    on_one c.push.result
    (λ same. trailing_waits c.args.instr x.laid.items x.waiting c.push.new.self x.queued x.committed
    (sym c.is_leading.ensures ∙ c.if-is_leading.false) (sym c.is_fixed.ensures ∙ c.if-is_fixed.false) same)
    c.push.ensures
