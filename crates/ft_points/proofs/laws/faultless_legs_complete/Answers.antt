use Rattle.ft_points.proofs.Completing.{completes}
use Rattle.ft_points.proofs.laws.faultless_legs_complete.Goals as goal

pub returns : goal.returns
returns c = completes
