use Rattle.ft_classes.proofs.Classes.{change_waits}
use Rattle.ft_classes.proofs.laws.changes_wait.Goals as goal

pub returns : goal.returns
returns c = change_waits
