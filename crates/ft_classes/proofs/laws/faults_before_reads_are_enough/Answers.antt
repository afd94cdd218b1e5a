use Rattle.ft_classes.proofs.Classes.{none_corrupt}
use Rattle.ft_classes.proofs.Whole.{others_enough}
use Rattle.ft_classes.proofs.laws.faults_before_reads_are_enough.Goals as goal

pub returns-clause-any : goal.returns-clause-any
returns-clause-any c = none_corrupt

pub returns-clause-but_counters : goal.returns-clause-but_counters
returns-clause-but_counters c = others_enough
