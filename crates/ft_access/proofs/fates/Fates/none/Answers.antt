use Rattle.ft_access.proofs.KeptFates.{new_holds}
use Rattle.ft_access.proofs.fates.Fates.none.Goals as goal

pub returns : goal.returns
returns c = new_holds
