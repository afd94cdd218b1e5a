use Rattle.ft_linker.proofs.Walks.{stands_none}
use Rattle.ft_linker.proofs.traced.Traced.new.Goals as goal

pub returns : goal.returns
returns c = stands_none
