use Rattle.ft_access.proofs.Waiting.{same_dead, same_after_gone}
use Rattle.ft_access.proofs.laws.dead_words_change_nothing.Goals as goal

pub returns-clause-outputs : goal.returns-clause-outputs
returns-clause-outputs c = same_dead

pub returns-clause-runs : goal.returns-clause-runs
returns-clause-runs c = same_after_gone
