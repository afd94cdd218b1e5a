use Rattle.ft_modules.specs.Linked.{raised_block}
use Rattle.ft_linker.proofs.Mapped.{mapped_pushed}
use Rattle.ft_linker.proofs.rows.lay_blocks.Goals as goal

pub loop-n-preserved : goal.loop-n-preserved
loop-n-preserved c = mapped_pushed (raised_block c.args.k) c.args.blocks.now c.args.laid.now.items c.loop-n.laid.items
    c.push.new.self.items c.loop-n.n c.at-block.result.now c.raise_block.result c.loop-n.invariant c.at-block.ensures
    c.raise_block.ensures c.in_ok-push.ensures.items
