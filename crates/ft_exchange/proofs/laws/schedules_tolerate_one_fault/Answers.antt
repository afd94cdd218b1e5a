use Rattle.ft_tolerance.proofs.Masking.{tolerant}
use Rattle.ft_exchange.proofs.Chains.{comes_spellable, comes_accepted}
use Rattle.ft_exchange.proofs.laws.schedules_tolerate_one_fault.Goals as goal

pub returns : goal.returns
returns c = λ o s strike w n spelled acc h. tolerant s strike w n (comes_spellable o s spelled acc h)
    (comes_accepted o s spelled acc h)
