use Rattle.ft_compile.proofs.Meant.{runs_as_meant, own_blocks}
use Rattle.ft_compile.proofs.laws.carried_blocks_run_as_meant.Goals as goal

pub returns-clause-all : goal.returns-clause-all
returns-clause-all c = runs_as_meant

pub returns-clause-own : goal.returns-clause-own
returns-clause-own c = own_blocks
