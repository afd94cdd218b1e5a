use Rattle.ft_meaning.proofs.Longer.{longer_ended, longer_cut}
use Rattle.ft_meaning.proofs.laws.more_turns_extend_a_meaning.Goals as goal

pub returns-clause-ended : goal.returns-clause-ended
returns-clause-ended c = longer_ended

pub returns-clause-cut : goal.returns-clause-cut
returns-clause-cut c = longer_cut
