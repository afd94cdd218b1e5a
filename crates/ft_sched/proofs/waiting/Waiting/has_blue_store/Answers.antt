use Rattle.std.proofs.Common.{ap, ◌∙◌}
use Rattle.std.specs.List.{list_any}
use Rattle.ft_exchange.specs.Exchange.{is_blue_store}
use Rattle.ft_sched.proofs.Kept.{blue_behind}
use Rattle.ft_sched.proofs.waiting.Waiting.has_blue_store.Goals as goal

pub returns : goal.returns
returns c = blue_behind c.self.inside.instrs.items c.self.inside.front c.self.inside.written c.self.inside.touched
    c.self.inside.blue_store c.self.invariant ∙ ap (list_any is_blue_store) c.self.view_is
