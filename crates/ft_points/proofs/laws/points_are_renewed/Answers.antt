use Rattle.ft_points.proofs.Renewing.{start_is_point, point_renewed, point_goes_on}
use Rattle.ft_points.proofs.laws.points_are_renewed.Goals as goal

pub returns : goal.returns
returns c = record { first = start_is_point; renewed = point_renewed; rest = point_goes_on }
