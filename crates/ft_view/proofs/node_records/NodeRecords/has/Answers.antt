use Rattle.std.proofs.Common.{nat_lt, sym, ap}
use Rattle.ft_view.proofs.NodeRows.{count_is}
use Rattle.ft_view.proofs.node_records.NodeRecords.has.Goals as goal

pub returns : goal.returns
returns c = ap (nat_lt c.args.n) (sym (count_is c.self.inside.count c.self.inside.bytes.now c.args.self.now
    c.self.view_is))
