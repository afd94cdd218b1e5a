use Rattle.ft_access.proofs.Fated.{lasts_still}
use Rattle.ft_access.proofs.laws.untouched_words_last.Goals as goal

pub returns : goal.returns
returns c = lasts_still
