use Rattle.ft_machine.proofs.SameArrays.{cells_decide}
use Rattle.ft_machine.proofs.cells.same_cells.Goals as goal

pub returns : goal.returns
returns c = cells_decide c.args.words.now c.args.other.now c.eq.result c.eq.ensures
