use Rattle.std.proofs.Common.{ap, inl, inr}
use Rattle.ft_semantics.specs.Step.{step_at}
use Rattle.ft_semantics.proofs.laws.stopped_machines_stay.Goals as goal

pub returns : goal.returns
returns c o s w (inl done) = ap (λ v. step_at o v s w) done
returns c o s w (inr detected) = ap (λ v. step_at o v s w) detected
