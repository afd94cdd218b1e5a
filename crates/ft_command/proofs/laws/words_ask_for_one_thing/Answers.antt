use Rattle.ft_command.proofs.One.{one_request}
use Rattle.ft_command.proofs.laws.words_ask_for_one_thing.Goals as goal

pub returns : goal.returns
returns c = one_request
