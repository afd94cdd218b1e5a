use Rattle.ft_access.proofs.Exact.{exact}
use Rattle.ft_access.proofs.laws.classes_are_exact.Goals as goal

pub returns : goal.returns
returns c = exact
