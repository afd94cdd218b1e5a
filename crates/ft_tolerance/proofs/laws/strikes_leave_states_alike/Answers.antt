use Rattle.ft_tolerance.proofs.Alike.{strike_alike}
use Rattle.ft_tolerance.proofs.laws.strikes_leave_states_alike.Goals as goal

pub returns : goal.returns
returns c = strike_alike
