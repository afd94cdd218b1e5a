use Rattle.ft_points.proofs.Certified.{certified_fits}
use Rattle.ft_points.proofs.laws.certified_states_fit.Goals as goal

pub returns : goal.returns
returns c = certified_fits
