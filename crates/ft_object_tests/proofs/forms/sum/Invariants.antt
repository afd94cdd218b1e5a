use Rattle.ft_norm.specs.Held.{IsInteger, Keeps}
use Rattle.ft_object_tests.proofs.forms.sum.Given as goal

abbrev pub invariant-loop-i : goal.invariant-loop-i
invariant-loop-i l = record {
  kept : Keeps l.fn.forms l.forms;
  sort : IsInteger l.forms l.total;
}
