use Rattle.ft_exchange.proofs.Unique.{one_schedule}
use Rattle.ft_exchange.proofs.laws.schedules_are_equal.Goals as goal

pub returns : goal.returns
returns c = one_schedule
