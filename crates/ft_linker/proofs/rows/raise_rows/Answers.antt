use Rattle.std.proofs.Common.{[]}
use Rattle.ft_modules.specs.Linked.{raised_row}
use Rattle.ft_linker.proofs.Mapped.{mapped_pushed}
use Rattle.ft_linker.proofs.rows.raise_rows.Goals as goal

pub loop-n-preserved : goal.loop-n-preserved
loop-n-preserved c = mapped_pushed (raised_row c.args.k) c.args.rows.now [] c.loop-n.raised.items c.push.new.self.items
    c.loop-n.n c.at-row.result.now c.raise_row.result c.loop-n.invariant c.at-row.ensures c.raise_row.ensures
    c.in_ok-push.ensures.items
