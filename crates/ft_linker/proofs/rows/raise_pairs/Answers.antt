use Rattle.std.proofs.Common.{[]}
use Rattle.ft_modules.specs.Linked.{raised_pair}
use Rattle.ft_linker.proofs.Mapped.{mapped_pushed}
use Rattle.ft_linker.proofs.rows.raise_pairs.Goals as goal

pub loop-n-preserved : goal.loop-n-preserved
loop-n-preserved c = mapped_pushed (raised_pair c.args.k) c.args.pairs.now [] c.loop-n.raised.items
    c.push.new.self.items c.loop-n.n c.at-pair.result.now c.raise_pair.result c.loop-n.invariant c.at-pair.ensures
    c.raise_pair.ensures c.in_ok-push.ensures.items
