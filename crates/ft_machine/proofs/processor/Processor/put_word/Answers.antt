use Rattle.std.proofs.Common.{sym, ap, ◌∙◌}
use Rattle.ft_isa.specs.declared.plan.Site.TheVariants.{QAddr, QVal}
use Rattle.ft_semantics.specs.Strike.{struck_state}
use Rattle.ft_machine.specs.Processors.{state_with}
use Rattle.ft_machine.proofs.Rows.{strike_address, strike_value}
use Rattle.ft_machine.proofs.processor.Processor.put_word.Goals as goal

pub returns-in-QAddr-clause-struck : goal.returns-in-QAddr-clause-struck
returns-in-QAddr-clause-struck g c = λ cells.
    let pending = g.Q.PendingStores.pending in
    let old = state_with c.args.self.now (pending c.args.queue.now) cells in
    strike_address old c.in-QAddr.i c.args.value (pending c.strike_addr.new.self) c.requires
    c.strike_addr.ensures.struck ∙ ap (λ x. struck_state old x c.args.value) (sym c.in-QAddr.is)

pub returns-in-QVal-clause-struck : goal.returns-in-QVal-clause-struck
returns-in-QVal-clause-struck g c = λ cells.
    let pending = g.Q.PendingStores.pending in
    let old = state_with c.args.self.now (pending c.args.queue.now) cells in
    strike_value old c.in-QVal.i c.args.value (pending c.strike_value.new.self) c.requires
    c.strike_value.ensures.struck ∙ ap (λ x. struck_state old x c.args.value) (sym c.in-QVal.is)
