use Rattle.ft_scope.proofs.ProgramFacts.{program_is_proper}
use Rattle.ft_scope.proofs.laws.programs_are_proper.Goals as goal

pub returns : goal.returns
returns c = program_is_proper
