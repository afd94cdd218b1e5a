use Rattle.ft_access.proofs.Steps.{unnoticed, gone, postponed}
use Rattle.ft_access.proofs.laws.unread_words_wait.Goals as goal

pub returns-clause-unnoticed : goal.returns-clause-unnoticed
returns-clause-unnoticed c = unnoticed

pub returns-clause-gone : goal.returns-clause-gone
returns-clause-gone c = gone

pub returns-clause-postponed : goal.returns-clause-postponed
returns-clause-postponed c = postponed
