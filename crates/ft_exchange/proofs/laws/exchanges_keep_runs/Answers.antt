use Rattle.ft_exchange.proofs.Chains.{alike}
use Rattle.ft_exchange.proofs.laws.exchanges_keep_runs.Goals as goal

pub returns : goal.returns
returns c = alike
