use Rattle.ft_modules.proofs.Linking.{linked_tolerant}
use Rattle.ft_modules.proofs.linking_laws.linked_objects_tolerate_one_fault.Goals as goal

pub returns : goal.returns
returns c = linked_tolerant
