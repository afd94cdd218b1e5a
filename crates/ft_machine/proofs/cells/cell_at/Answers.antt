use Rattle.std.proofs.Common.{rules, sym, ◌∙◌}
use Rattle.ft_machine.proofs.Arrayed.{no_cell_below, cell_read}
use Rattle.ft_machine.proofs.cells.cell_at.Goals as goal

pub returns-then-addr-lt-FIRST_CELL : goal.returns-then-addr-lt-FIRST_CELL
returns-then-addr-lt-FIRST_CELL c = sym (no_cell_below c.args.words.now c.args.addr c.if-addr-lt-FIRST_CELL.true)

pub returns : goal.returns
returns c = c.word_at.ensures ∙ sym (cell_read c.args.words.now c.args.addr (search rules))
