use Rattle.std.proofs.Common.{sym, ◌∙◌}
use Rattle.ft_sched.proofs.Laying.{leading_begins, first_led, led, on_both}
use Rattle.ft_sched.proofs.order.Order.lead.Goals as goal

pub loop-self-init : goal.loop-self-init
loop-self-init c = λ rows start past base rest h a.
    leading_begins c.args.instr rows start past base rest c.args.self.now.laid.items c.args.self.now.waiting
    c.args.self.now.queued c.args.self.now.committed h a

pub loop-self-preserved : goal.loop-self-preserved
loop-self-preserved c = λ rows start past base rest h a.
    first_led c.args.instr rows start past base rest c.loop-self.self.laid.items c.lay_first.new.self.laid.items
    c.loop-self.self.waiting c.lay_first.new.self.waiting c.loop-self.self.queued c.lay_first.new.self.queued
    c.loop-self.self.committed c.lay_first.new.self.committed
    c.in_ok-lay_first.ensures (sym c.holds_back.ensures
    ∙ c.loop-self-test.true) (c.loop-self.invariant rows start past base rest h a)

pub returns : goal.returns
returns c =
    let x = c.args.self.now in
    let y = c.loop-self.self in
    let z = c.lay.new.self in
    on_both c.lay.result
    (λ lays same. led c.args.instr x.laid.items x.waiting y.laid.items y.waiting z.laid.items z.waiting x.queued
    x.committed y.queued y.committed z.queued z.committed c.requires (sym c.holds_back.ensures
    ∙ c.loop-self-test.false) c.loop-self.invariant lays same)
    c.lay.ensures.lays c.lay.ensures.waiting
