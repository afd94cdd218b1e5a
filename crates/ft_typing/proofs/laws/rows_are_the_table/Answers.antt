use Rattle.ft_typing.proofs.TypingRows.{row_is}
use Rattle.ft_typing.proofs.laws.rows_are_the_table.Goals as goal

pub returns : goal.returns
returns c = row_is
