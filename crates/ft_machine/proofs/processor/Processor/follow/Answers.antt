use Rattle.std.proofs.Common.{rules}
use Rattle.ft_machine.proofs.processor.Processor.follow.Goals as goal

pub returns-in-On-clause-state : goal.returns-in-On-clause-state
returns-in-On-clause-state c = λ queue cells. let h = c.go_on.ensures queue cells in search rules

pub returns-in-Commit-clause-state : goal.returns-in-Commit-clause-state
returns-in-Commit-clause-state c = λ queue cells. let h = c.go_on-in-Commit.ensures queue cells in search rules
