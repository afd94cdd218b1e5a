use Rattle.ft_syntax.proofs.Answers.{one_answer, some_answer}
use Rattle.ft_syntax.proofs.laws.one_text_has_one_answer.Goals as goal

pub returns-clause-one : goal.returns-clause-one
returns-clause-one c = one_answer

pub returns-clause-some : goal.returns-clause-some
returns-clause-some c = some_answer
