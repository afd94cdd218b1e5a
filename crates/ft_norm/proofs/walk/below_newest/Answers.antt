use Rattle.std.proofs.Common.{refl}
use Rattle.ft_norm.specs.Entries.{forms_of}
use Rattle.ft_norm.proofs.Forms.{link, no_link}
use Rattle.ft_norm.proofs.Walking.{address_differs, memory_reached_at, older_reach, one_is_same, upd_first, upd_other}
use Rattle.ft_norm.proofs.Walking.{upd_over}
use Rattle.ft_norm.proofs.walk.below_newest.Goals as goal

pub returns-in_default : goal.returns-in_default
returns-in_default c = record {
  within = memory_reached_at c.args.entries.now c.args.memory c.requires.memory;
  below = λ v. upd_first _ _ v (no_link c.args.entries.now c.args.memory c.index-entries-memory.result
      c.requires.entries.earlier c.requires.within c.index-entries-memory.is c.in_default.not-Update);
}

pub returns-then-newest-at : goal.returns-then-newest-at
returns-then-newest-at c =
    let es = c.args.entries.now in
    let l = c.requires.within in
    let a = link es c.args.memory c.index-entries-memory.result c.in-Update.newest c.in-Update.value c.in-Update.older
    c.requires.entries.earlier l c.index-entries-memory.is c.in-Update.is in
    record {
      within = older_reach es c.args.memory c.index-entries-memory.result c.in-Update.newest c.in-Update.value
          c.in-Update.older c.requires.entries l c.index-entries-memory.is c.in-Update.is;
      below = λ v. upd_over _ _ _ _ _ v _ a refl (one_is_same (forms_of es) c.in-Update.newest c.args.at
          c.if-newest-at.true);
    }

pub returns : goal.returns
returns c =
    let es = c.args.entries.now in
    let l = c.requires.within in
    let a = link es c.args.memory c.index-entries-memory.result c.in-Update.newest c.in-Update.value c.in-Update.older
    c.requires.entries.earlier l c.index-entries-memory.is c.in-Update.is in
    record {
      within = memory_reached_at es c.args.memory c.requires.memory;
      below = λ v. upd_other _ _ _ _ _ v _ a refl (address_differs es c.args.memory c.index-entries-memory.result
          c.in-Update.newest c.in-Update.value c.in-Update.older c.args.at c.requires.entries l
          c.index-entries-memory.is
          c.in-Update.is c.requires.at c.if-newest-at.false);
    }
