use Rattle.ft_flight.proofs.Lasting.{may_hold}
use Rattle.ft_flight.proofs.laws.cells_keep_their_types.Goals as goal

pub returns : goal.returns
returns c = may_hold
