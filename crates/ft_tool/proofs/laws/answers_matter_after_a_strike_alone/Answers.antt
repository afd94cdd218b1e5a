use Rattle.std.proofs.Common.{[], ap}
use Rattle.ft_semantics.specs.State.{State}
use Rattle.ft_tolerance.proofs.AnyAnswers.{any_answers}
use Rattle.ft_tool.proofs.laws.answers_matter_after_a_strike_alone.Goals as goal

pub returns : goal.returns
returns c = record {
  outputs = λ o w n spelled acc. (any_answers o w [] n spelled acc).outputs;
  status = λ o w n spelled acc. ap (λ (s : State). s.status) (any_answers o w [] n spelled acc).state;
}
