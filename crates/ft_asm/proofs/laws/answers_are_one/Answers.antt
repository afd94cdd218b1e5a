use Rattle.ft_asm.proofs.Single.{one_answer}
use Rattle.ft_asm.proofs.Total.{some_answer}
use Rattle.ft_asm.proofs.laws.answers_are_one.Goals as goal

pub returns : goal.returns
returns c = record { some = some_answer; one = one_answer }
