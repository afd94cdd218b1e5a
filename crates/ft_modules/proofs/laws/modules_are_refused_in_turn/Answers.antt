use Rattle.ft_modules.proofs.InTurn.{in_turn}
use Rattle.ft_modules.proofs.laws.modules_are_refused_in_turn.Goals as goal

pub returns : goal.returns
returns c = in_turn
