use Rattle.std.proofs.Common.{◌<◌, subst}
use Rattle.ft_view.proofs.CountedParts.{cell_count, cell_is}
use Rattle.ft_view.proofs.view.ViewProgram.cell.Goals as goal

pub cell_record-requires : goal.cell_record-requires
cell_record-requires c = subst (λ n. c.args.k < n) (cell_count c.args.self.now) c.requires

pub returns : goal.returns
returns c = cell_is c.args.self.now c.args.k _ _ _ _ _ c.read_cell.result c.cell_record.ensures
    c.read_cell.ensures.basic c.read_cell.ensures.init
