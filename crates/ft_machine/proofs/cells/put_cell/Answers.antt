use Rattle.std.proofs.Common.{ap, ◌∙◌}
use Rattle.ft_machine.specs.Arrays.{cells_of}
use Rattle.ft_machine.proofs.Arrayed.{within, cell_put}
use Rattle.ft_machine.proofs.cells.put_cell.Goals as goal

pub overflow_sub-addr : goal.overflow_sub-addr
overflow_sub-addr c = (within c.args.words.now c.args.addr c.requires).0

pub put_word-requires : goal.put_word-requires
put_word-requires c = (within c.args.words.now c.args.addr c.requires).1

pub returns : goal.returns
returns c = ap cells_of c.put_word.ensures ∙ cell_put c.args.words.now c.args.addr c.args.word c.requires
