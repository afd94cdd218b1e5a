use Rattle.std.proofs.Common.{ap, sym, ◌∙◌}
use Rattle.std.specs.Option.{option_copied_mut}
use Rattle.ft_isa.specs.Pending.{with_value}
use Rattle.ft_queue.specs.declared.queue.StoreQueue.TheInside.{Inside}
use Rattle.ft_queue.proofs.PendingLemmas.{value_put, value_none}
use Rattle.ft_queue.proofs.queue.StoreQueue.strike_value.Goals.{in-Some, in-None}
use Rattle.ft_queue.proofs.queue.StoreQueue.strike_value.Goals as goal

pub returns-clause-struck : goal.returns-clause-struck
returns-clause-struck c =
    elim c.match-get_mut.branch [
      | in-Some w ↦ ap (λ (q : Inside). q.pairs.items) w.self-inside-is
          ∙ value_put c.self.inside.pairs.items c.args.i c.args.value w.in-Some.pair.now
          (sym (ap option_copied_mut w.in-Some.is) ∙ c.get_mut.ensures.value)
          ∙ ap (λ q. with_value q c.args.i c.args.value) c.self.view_is
      | in-None w ↦ ap (λ (q : Inside). q.pairs.items) w.self-inside-is
          ∙ value_none c.self.inside.pairs.items c.args.i c.args.value (sym (ap option_copied_mut w.in-None.is)
          ∙ c.get_mut.ensures.value)
          ∙ ap (λ q. with_value q c.args.i c.args.value) c.self.view_is
    ]
