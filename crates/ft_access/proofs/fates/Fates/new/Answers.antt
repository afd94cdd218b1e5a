use Rattle.ft_access.proofs.KeptFates.{end_fates}
use Rattle.ft_access.proofs.fates.Fates.new.Goals as goal

pub returns : goal.returns
returns c = λ o w n. end_fates o w n c.none.result c.none.ensures
