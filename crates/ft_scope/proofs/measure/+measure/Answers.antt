use Rattle.std.proofs.Common.{◌≡◌, ◌+◌, arith, sym, ap, ◌∙◌, take}
use Rattle.ft_syntax.specs.Plain.{none, follow, plain_statement, plain_list}
use Rattle.ft_syntax.proofs.PlainForms.{list_take}
use Rattle.ft_scope.specs.Size.{same_slot, most_need, statements_weight}
use Rattle.ft_scope.proofs.Measures.{need_follow, weight_follow}
use Rattle.ft_scope.proofs.measure.+measure.Goals as goal

pub measure_statements-loop-s-preserved : goal.measure_statements-loop-s-preserved
measure_statements-loop-s-preserved t c =
    let all = c.args.all.now in
    let i = c.loop-s.s-index in
    let s = c.s-item.result in
    let before = plain_list same_slot (take i all) in
    let is : plain_list same_slot (take (i + 1) all) ≡ follow before (plain_statement same_slot s none) =
    list_take same_slot all i s (omega arith) ∙ ap (λ v. follow before (plain_statement same_slot v none))
    (sym c.s-item.is) in
    let needs = ap most_need is ∙ need_follow before (plain_statement same_slot s none) in
    let weighs = ap statements_weight is ∙ weight_follow before (plain_statement same_slot s none) in
    record {
      need = omega (arith, needs, c.loop-s.invariant.need, c.measure_statement.ensures.need, c.and-whole.ensures.need);
      weight = omega (
        arith,
        weighs,
        c.loop-s.invariant.weight,
        c.measure_statement.ensures.weight,
        c.and-whole.ensures.weight,
      );
    }
