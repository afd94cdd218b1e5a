use Rattle.std.proofs.Common.{◌≡◌, ◌-◌, ◌^◌, min, take}
use Rattle.ft_syntax.specs.Plain.{plain_list}
use Rattle.ft_scope.specs.Size.{same_slot, most_need, statements_weight}
use Rattle.ft_scope.proofs.measure.+measure.Given as goal

abbrev pub invariant-measure_statements-loop-s : goal.invariant-measure_statements-loop-s
invariant-measure_statements-loop-s l = record {
  need : l.whole.need ≡ min (most_need (plain_list same_slot (take l.s-index l.all))) (2 ^ 64 - 1);
  weight : l.whole.weight ≡ min (statements_weight (plain_list same_slot (take l.s-index l.all))) (2 ^ 64 - 1);
}
