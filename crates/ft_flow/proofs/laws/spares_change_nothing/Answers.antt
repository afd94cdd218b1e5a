use Rattle.ft_flow.proofs.PlainRuns.{runs_alike}
use Rattle.ft_flow.proofs.laws.spares_change_nothing.Goals as goal

pub returns : goal.returns
returns c = λ vars cells bs W words k. let A = runs_alike vars cells bs W words k in (A.done, A.out)
