use Rattle.ft_tolerance.proofs.Whole.{accepted_fits}
use Rattle.ft_tolerance.proofs.laws.accepted_objects_fit_their_types.Goals as goal

pub returns : goal.returns
returns c = accepted_fits
