use Rattle.ft_format.proofs.Write.{spells_apart}
use Rattle.ft_format.proofs.laws.spellings_are_apart.Goals as goal

pub returns : goal.returns
returns c = spells_apart
