use Rattle.ft_modules.proofs.ExchangedWalk.{modules_exchanged}
use Rattle.ft_modules.proofs.module_laws.exchanges_keep_modules.Goals as goal

pub returns : goal.returns
returns c = modules_exchanged
