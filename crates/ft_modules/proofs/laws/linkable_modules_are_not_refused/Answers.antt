use Rattle.ft_modules.proofs.Exact.{linkable_exactly}
use Rattle.ft_modules.proofs.laws.linkable_modules_are_not_refused.Goals as goal

pub returns : goal.returns
returns c = linkable_exactly
