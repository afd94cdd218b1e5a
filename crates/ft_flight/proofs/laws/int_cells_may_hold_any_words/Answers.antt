use Rattle.ft_flight.proofs.OtherWords.{ints_hold}
use Rattle.ft_flight.proofs.laws.int_cells_may_hold_any_words.Goals as goal

pub returns : goal.returns
returns c = ints_hold
