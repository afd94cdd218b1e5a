use Rattle.ft_typing.proofs.Acceptance.{accepted_is_unrefused}
use Rattle.ft_typing.proofs.laws.acceptance_is_no_refusal.Goals as goal

pub returns : goal.returns
returns c = accepted_is_unrefused
