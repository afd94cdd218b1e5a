use Rattle.ft_norm.specs.Held.{IsInteger, Keeps}
use Rattle.ft_object_tests.proofs.forms.tower.Given as goal

abbrev pub invariant-loop : goal.invariant-loop
invariant-loop l = record {
  kept : Keeps l.fn.forms l.forms;
  sort : IsInteger l.forms l.top;
}
