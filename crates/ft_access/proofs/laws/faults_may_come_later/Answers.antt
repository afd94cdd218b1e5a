use Rattle.ft_access.proofs.Waiting.{same_always, same_runs}
use Rattle.ft_access.proofs.laws.faults_may_come_later.Goals as goal

pub returns-clause-outputs : goal.returns-clause-outputs
returns-clause-outputs c = same_always

pub returns-clause-runs : goal.returns-clause-runs
returns-clause-runs c = same_runs
