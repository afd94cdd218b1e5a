use Rattle.ft_riscv.proofs.Apart.{unambiguous}
use Rattle.ft_riscv.proofs.laws.table_is_unambiguous.Goals as goal

pub returns : goal.returns
returns c = unambiguous
