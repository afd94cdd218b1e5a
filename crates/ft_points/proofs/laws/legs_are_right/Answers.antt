use Rattle.ft_points.proofs.Right.{right}
use Rattle.ft_points.proofs.laws.legs_are_right.Goals as goal

pub returns : goal.returns
returns c = right
