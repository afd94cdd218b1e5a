use Rattle.ft_modules.specs.Linked.{raised_type}
use Rattle.ft_linker.proofs.Mapped.{mapped_pushed}
use Rattle.ft_linker.proofs.rows.lay_types.Goals as goal

pub loop-n-preserved : goal.loop-n-preserved
loop-n-preserved c = mapped_pushed (raised_type c.args.k) c.args.types.now c.args.laid.now.items c.loop-n.laid.items
    c.push.new.self.items c.loop-n.n c.at.result.now c.in_ok-raised.raised c.loop-n.invariant c.at.ensures
    c.in_ok-raised.ensures c.in_ok-push.ensures.items
