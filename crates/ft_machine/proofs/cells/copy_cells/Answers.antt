use Rattle.ft_machine.proofs.Arrayed.{as_many_words}
use Rattle.ft_machine.proofs.cells.copy_cells.Goals as goal

pub copy_from_slice-requires : goal.copy_from_slice-requires
copy_from_slice-requires c = as_many_words c.args.words.now c.args.other.now c.requires
