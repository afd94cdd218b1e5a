use Rattle.ft_compile.proofs.Objects.{emission}
use Rattle.ft_compile.proofs.laws.emitted_objects_are_accepted.Goals as goal

pub returns : goal.returns
returns c = emission
