use Rattle.ft_points.proofs.Completing.{masked}
use Rattle.ft_points.proofs.laws.certified_runs_are_masked.Goals as goal

pub returns : goal.returns
returns c = masked
