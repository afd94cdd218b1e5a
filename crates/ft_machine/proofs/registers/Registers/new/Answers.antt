use Rattle.ft_machine.proofs.Arrayed.{registers_at_first}
use Rattle.ft_machine.proofs.registers.Registers.new.Goals as goal

pub returns : goal.returns
returns c = registers_at_first
