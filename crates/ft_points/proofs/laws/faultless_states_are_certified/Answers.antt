use Rattle.ft_points.proofs.Faultless.{faultless}
use Rattle.ft_points.proofs.laws.faultless_states_are_certified.Goals as goal

pub returns : goal.returns
returns c = faultless
