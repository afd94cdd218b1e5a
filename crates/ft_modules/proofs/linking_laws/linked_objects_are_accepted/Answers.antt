use Rattle.ft_modules.proofs.AcceptedLinked.{accepted_linked}
use Rattle.ft_modules.proofs.SpelledWhole.{spelled_linked}
use Rattle.ft_modules.proofs.linking_laws.linked_objects_are_accepted.Goals as goal

pub returns : goal.returns
returns c = record { spelled = spelled_linked; accepted = accepted_linked }
