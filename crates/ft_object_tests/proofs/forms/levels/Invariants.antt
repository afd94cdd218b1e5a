use Rattle.ft_norm.specs.Held.{IsInteger, Keeps}
use Rattle.ft_object_tests.proofs.forms.levels.Given as goal

abbrev pub invariant-loop : goal.invariant-loop
invariant-loop l = record {
  kept : Keeps l.fn.forms l.forms;
  left : IsInteger l.forms l.left;
  right : IsInteger l.forms l.right;
  sum : IsInteger l.forms l.sum;
}
