use Rattle.std.proofs.Common.{ap, take, ◌∙◌}
use Rattle.ft_norm.specs.Entries.{forms_of}
use Rattle.ft_norm.proofs.First.{first_entries, first_forms, first_kept}
use Rattle.ft_norm.proofs.Ways.{paths_none}
use Rattle.ft_norm.proofs.interner.Interner.keep_first.Goals as goal

pub invariant_of-self : goal.invariant_of-self
invariant_of-self c = record {
  entries = rw c.truncate.ensures.keys
      (first_entries c.self.inside.entries.keys c.args.count c.self.invariant.entries);
  paths = paths_none _ c.new.result c.new.ensures.empty;
}

pub returns-clause-first : goal.returns-clause-first
returns-clause-first c = ap forms_of c.truncate.ensures.keys ∙ first_forms c.self.inside.entries.keys c.args.count
    ∙ ap (take c.args.count) c.self.view_is

pub returns-clause-kept : goal.returns-clause-kept
returns-clause-kept c = λ fs l k. rw (returns-clause-first c) (first_kept fs c.args.self.now c.args.count l k)
