use Rattle.ft_demo.proofs.Tried.{fault_is}
use Rattle.ft_demo.proofs.faults.fault.Goals as goal

pub returns : goal.returns
returns c = fault_is c.args.j c.below.result c.below.ensures
