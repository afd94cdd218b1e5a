use Rattle.ft_classes.proofs.Classes.{stands_some, stands_none}
use Rattle.ft_classes.proofs.laws.representatives_have_the_verdicts.Goals as goal

pub returns-clause-some : goal.returns-clause-some
returns-clause-some c = stands_some

pub returns-clause-none : goal.returns-clause-none
returns-clause-none c = stands_none
