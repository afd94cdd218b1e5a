use Rattle.std.proofs.Common.{arith}
use Rattle.ft_view.proofs.NodeRows.{count_is, row_is}
use Rattle.ft_view.proofs.node_records.NodeRecords.row.Goals as goal

pub stretch-requires : goal.stretch-requires
stretch-requires c = omega (
  arith,
  c.requires,
  c.self.invariant,
  count_is c.self.inside.count c.self.inside.bytes.now c.args.self.now c.self.view_is,
)

pub returns : goal.returns
returns c = row_is c.self.inside.count c.args.n c.self.inside.bytes.now c.stretch.result.now _ c.args.self.now
    c.self.view_is c.requires c.stretch.ensures.bytes c.read.ensures
