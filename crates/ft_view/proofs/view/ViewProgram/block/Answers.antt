use Rattle.std.proofs.Common.{◌<◌, subst}
use Rattle.ft_view.proofs.CountedParts.{block_count, block_is}
use Rattle.ft_view.proofs.view.ViewProgram.block.Goals as goal

pub block_record-requires : goal.block_record-requires
block_record-requires c = subst (λ n. c.args.b < n) (block_count c.args.self.now) c.requires

pub returns : goal.returns
returns c = block_is c.args.self.now _ c.args.b c.read_block.result c.block_record.ensures c.read_block.ensures
