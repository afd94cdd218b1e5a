use Rattle.ft_flight.proofs.Exact.{exact}
use Rattle.ft_flight.proofs.causes.causes_are_exact.Goals as goal

pub returns : goal.returns
returns c = λ o s runs. exact o s runs
