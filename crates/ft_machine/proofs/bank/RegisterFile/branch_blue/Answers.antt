use Rattle.std.proofs.Common.{rules}
use Rattle.ft_machine.proofs.bank.RegisterFile.branch_blue.Goals as goal

pub returns-then-word-eq0 : goal.returns-then-word-eq0
returns-then-word-eq0 c = λ queue cells. let h = c.jump_blue.ensures queue cells in search rules

pub returns-else-word-eq0 : goal.returns-else-word-eq0
returns-else-word-eq0 c = λ queue cells. let h = c.pass.ensures queue cells in search rules
