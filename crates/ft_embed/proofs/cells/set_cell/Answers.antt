use Rattle.ft_embed.proofs.SetCells.{is_set, word_within}
use Rattle.ft_embed.proofs.cells.set_cell.Goals as goal

pub put_word-requires : goal.put_word-requires
put_word-requires c = word_within c.args.bytes.now c.args.cell (c.find_int_cell-found.ensures.found c.if-found-eq0.true)

pub returns-then-found-eq0-clause-set : goal.returns-then-found-eq0-clause-set
returns-then-found-eq0-clause-set c = λ _ _ _. is_set c.args.bytes.now c.put_word.new.bytes c.args.cell c.args.word
    c.ranges.word.fits (c.find_int_cell-found.ensures.found c.if-found-eq0.true) c.put_word.ensures
