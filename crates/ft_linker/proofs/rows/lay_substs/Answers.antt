use Rattle.std.proofs.Common.{refl, ◌+◌}
use Rattle.ft_linker.proofs.Mapped.{mapped_pushed}
use Rattle.ft_linker.proofs.rows.lay_substs.Goals as goal

pub loop-n-preserved : goal.loop-n-preserved
loop-n-preserved c = mapped_pushed (λ n. c.args.k + n) c.args.substs.now c.args.laid.now.items c.loop-n.laid.items
    c.push.new.self.items c.loop-n.n c.at-row.result.now (c.args.k + c.at-row.result.now) c.loop-n.invariant
    c.at-row.ensures refl c.in_ok-push.ensures.items
