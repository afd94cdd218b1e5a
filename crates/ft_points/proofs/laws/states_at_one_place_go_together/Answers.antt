use Rattle.ft_points.proofs.Together.{go_together}
use Rattle.ft_points.proofs.laws.states_at_one_place_go_together.Goals as goal

pub returns : goal.returns
returns c = go_together
