use Rattle.ft_tool.proofs.OneAnswer.{one_answer}
use Rattle.ft_tool.proofs.laws.words_have_one_answer.Goals as goal

pub returns : goal.returns
returns c = one_answer (record {
  one_request = c.words_ask_for_one_thing.ensures;
  one_object = λ bytes o h. c.rules_are_exact.ensures.one bytes h.0 o h.1;
  unbroken = λ bytes o h. c.rules_are_exact.ensures.unbroken bytes h.0 o h.1;
  one_said = c.answers_are_one.ensures.one;
  one_outcome = c.one_text_has_one_outcome.ensures.one;
  one_list = c.one_text_has_one_list.ensures.list;
  one_refusal = c.one_text_has_one_list.ensures.refusal;
  either = c.one_text_has_one_list.ensures.either;
  one_verdict = c.verdicts_are_one.ensures;
  one_script = c.commands_are_one.ensures.one;
  one_map = c.lines_are_one.ensures.one;
  one_schedule = c.schedules_are_equal.ensures;
})
