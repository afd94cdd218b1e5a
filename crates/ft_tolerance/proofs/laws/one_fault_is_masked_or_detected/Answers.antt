use Rattle.ft_tolerance.proofs.Masking.{tolerant}
use Rattle.ft_tolerance.proofs.laws.one_fault_is_masked_or_detected.Goals as goal

pub returns : goal.returns
returns c = tolerant
