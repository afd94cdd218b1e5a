use Rattle.std.proofs.Common.{◌≤◌, List, length, subst, sym, ◌∙◌}
use Rattle.ft_isa.specs.declared.plan.Strike.{Strike}
use Rattle.ft_demo.proofs.Tried.{few_faults}
use Rattle.ft_demo.proofs.demonstration.show_checked.Goals as goal

pub totals_of-requires : goal.totals_of-requires
totals_of-requires g c = record {
  few = subst (λ (xs : List Strike).
      length xs ≤ 64) (sym (c.as_slice.ensures.value ∙ c.in_ok-faults.ensures)) (few_faults 64);
}
