use Rattle.std.proofs.Common.{sym, subst, ap, ◌∙◌}
use Rattle.ft_linker.specs.Linking.{AreAdded}
use Rattle.ft_linker.specs.Totals.{totals_of}
use Rattle.ft_linker.proofs.Adding.{none_added}
use Rattle.ft_linker.proofs.modules.Modules.new.Goals as goal

pub invariant_of-result : goal.invariant_of-result
invariant_of-result c = (
  subst AreAdded (sym c.new.ensures.items) none_added,
  c.none.ensures
      ∙ ap totals_of (sym c.new.ensures.items),
)
