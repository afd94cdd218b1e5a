use Rattle.ft_exchange.proofs.Chains.{comes_spellable, comes_accepted}
use Rattle.ft_exchange.proofs.laws.schedules_are_accepted.Goals as goal

pub returns : goal.returns
returns c = record { spellable = comes_spellable; accepted = comes_accepted }
