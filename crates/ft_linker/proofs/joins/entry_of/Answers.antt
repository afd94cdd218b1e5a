use Rattle.std.proofs.Common.{ℕ, map, sym, ap, ◌∙◌}
use Rattle.std.specs.Prelude.{find}
use Rattle.ft_modules.specs.Linked.{entry_by}
use Rattle.ft_linker.specs.Joins.{is_from, link_as}
use Rattle.ft_linker.proofs.Joining.{to_there}
use Rattle.ft_linker.proofs.joins.entry_of.Goals as goal

pub number-requires : goal.number-requires
number-requires c = record {
  can = c.requires.can;
  starts = c.requires.starts;
  there = to_there c.args.objects.now c.first_entry-entry.result c.args.joins.now c.in-Some.join c.requires.there
      (sym c.in-Some.ensures);
}

pub returns-in-Some : goal.returns-in-Some
returns-in-Some c = λ first there.
    c.number.ensures ∙ ap (entry_by c.args.objects.now first.entry) c.in-Some.ensures
    ∙ ap (λ (z : ℕ). entry_by c.args.objects.now first.entry (find (is_from z) (map link_as c.args.joins.now)))
    (c.first_entry-entry.ensures first there)

pub returns-in-None : goal.returns-in-None
returns-in-None c = λ first there.
    c.first_entry-entry.ensures first there ∙ ap (entry_by c.args.objects.now first.entry) c.in-None.ensures
    ∙ ap (λ (z : ℕ). entry_by c.args.objects.now first.entry (find (is_from z) (map link_as c.args.joins.now)))
    (c.first_entry-entry.ensures first there)
