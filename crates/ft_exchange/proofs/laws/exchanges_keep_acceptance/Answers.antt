use Rattle.ft_exchange.proofs.Accepted.{spellable_exchanged, accepted_exchanged}
use Rattle.ft_exchange.proofs.laws.exchanges_keep_acceptance.Goals as goal

pub returns : goal.returns
returns c = record { spellable = spellable_exchanged; accepted = accepted_exchanged }
