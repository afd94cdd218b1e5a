use Rattle.ft_scope.proofs.Outcomes.{judged, one_outcome, outcome_from}
use Rattle.ft_scope.proofs.laws.one_text_has_one_outcome.Goals as goal

pub returns-clause-one : goal.returns-clause-one
returns-clause-one c = λ text. one_outcome text (c.one_text_has_one_answer.ensures.one text)

pub returns-clause-some : goal.returns-clause-some
returns-clause-some c = λ text. let a = c.one_text_has_one_answer.ensures.some text in
    (judged a.0, outcome_from text a.0 a.1)
