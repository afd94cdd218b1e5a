use Rattle.ft_access.proofs.Changed.{lasts_same}
use Rattle.ft_access.proofs.laws.lasting_words_keep_their_values.Goals as goal

pub returns : goal.returns
returns c = lasts_same
