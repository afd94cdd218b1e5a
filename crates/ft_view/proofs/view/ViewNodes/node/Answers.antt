use Rattle.std.proofs.Common.{◌<◌, subst}
use Rattle.ft_view.proofs.CountedParts.{node_count, node_is}
use Rattle.ft_view.proofs.view.ViewNodes.node.Goals as goal

pub node_record-requires : goal.node_record-requires
node_record-requires c = subst (λ n. c.args.n < n) (node_count c.args.self.now) c.requires

pub returns : goal.returns
returns c = node_is c.args.self.now _ c.args.n c.read_node.result c.node_record.ensures.there c.read_node.ensures
