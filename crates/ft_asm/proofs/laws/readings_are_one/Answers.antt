use Rattle.ft_asm.proofs.Order.{one_reading}
use Rattle.ft_asm.proofs.laws.readings_are_one.Goals as goal

pub returns : goal.returns
returns c = one_reading
