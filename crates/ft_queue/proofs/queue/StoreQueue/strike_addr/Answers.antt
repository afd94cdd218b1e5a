use Rattle.std.proofs.Common.{ap, sym, ◌∙◌}
use Rattle.std.specs.Option.{option_copied_mut}
use Rattle.ft_isa.specs.Pending.{with_address}
use Rattle.ft_queue.specs.declared.queue.StoreQueue.TheInside.{Inside}
use Rattle.ft_queue.proofs.PendingLemmas.{address_put, address_none}
use Rattle.ft_queue.proofs.queue.StoreQueue.strike_addr.Goals.{in-Some, in-None}
use Rattle.ft_queue.proofs.queue.StoreQueue.strike_addr.Goals as goal

pub returns-clause-struck : goal.returns-clause-struck
returns-clause-struck c =
    elim c.match-get_mut.branch [
      | in-Some w ↦ ap (λ (q : Inside). q.pairs.items) w.self-inside-is
          ∙ address_put c.self.inside.pairs.items c.args.i c.args.addr w.in-Some.pair.now
          (sym (ap option_copied_mut w.in-Some.is) ∙ c.get_mut.ensures.value)
          ∙ ap (λ q. with_address q c.args.i c.args.addr) c.self.view_is
      | in-None w ↦ ap (λ (q : Inside). q.pairs.items) w.self-inside-is
          ∙ address_none c.self.inside.pairs.items c.args.i c.args.addr (sym (ap option_copied_mut w.in-None.is)
          ∙ c.get_mut.ensures.value)
          ∙ ap (λ q. with_address q c.args.i c.args.addr) c.self.view_is
    ]
