use Rattle.ft_compile.proofs.Existing.{programs_have_objects}
use Rattle.ft_compile.proofs.laws.programs_have_objects.Goals as goal

pub returns : goal.returns
returns c = programs_have_objects
