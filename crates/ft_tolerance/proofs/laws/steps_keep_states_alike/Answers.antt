use Rattle.ft_tolerance.proofs.Masking.{step_follows}
use Rattle.ft_tolerance.proofs.laws.steps_keep_states_alike.Goals as goal

pub returns : goal.returns
returns c = step_follows
