use Rattle.ft_modules.specs.Linked.{raised_node}
use Rattle.ft_linker.proofs.Mapped.{mapped_pushed}
use Rattle.ft_linker.proofs.rows.lay_nodes.Goals as goal

pub loop-n-preserved : goal.loop-n-preserved
loop-n-preserved c = mapped_pushed (raised_node c.args.k) c.args.nodes.now c.args.laid.now.items c.loop-n.laid.items
    c.push.new.self.items c.loop-n.n c.at-node.result.now c.raise_node.result c.loop-n.invariant c.at-node.ensures
    c.raise_node.ensures c.in_ok-push.ensures.items
