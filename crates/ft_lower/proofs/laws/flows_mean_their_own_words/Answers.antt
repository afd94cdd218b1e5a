use Rattle.ft_lower.proofs.Whole.{own_flow}
use Rattle.ft_lower.proofs.laws.flows_mean_their_own_words.Goals as goal

pub returns : goal.returns
returns c = own_flow
