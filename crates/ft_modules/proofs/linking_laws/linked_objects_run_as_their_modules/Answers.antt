use Rattle.std.proofs.Common.{sym}
use Rattle.ft_modules.proofs.Linking.{linked_runs}
use Rattle.ft_modules.proofs.linking_laws.linked_objects_run_as_their_modules.Goals as goal

pub returns : goal.returns
returns c = record {
  outputs = λ linkage first others n h. sym (linked_runs linkage first others h n).outputs;
  status = λ linkage first others n h. sym (linked_runs linkage first others h n).status;
}
