use Rattle.std.proofs.Common.{refl, sym, ap, subst, ◌∙◌}
use Rattle.ft_types.specs.declared.object.Object.{Object}
use Rattle.ft_types.specs.Spellable.{IsSpellable}
use Rattle.ft_format.specs.declared.version.Version.TheVariants.{Second}
use Rattle.ft_format.specs.Format.{Spells}
use Rattle.ft_format.specs.Rows.{spelling}
use Rattle.ft_format.specs.Broken.{object_of, version_at}
use Rattle.ft_format.proofs.ReadWhole.{read_spells}
use Rattle.ft_format.proofs.SpelledBytes.{spelling_bytes}
use Rattle.ft_format.proofs.Versions.{has_all}
use Rattle.ft_format.proofs.Write.{spells_unbroken, spells_read, spells_version}
use Rattle.ft_format.proofs.laws.spellings_are_one.Goals as goal

-- the spelling of an object that obeys the rules spells it
by_spelling : (o : Object) → IsSpellable o → Spells (spelling Second o) Second o
by_spelling o s = record { spellable = s; has = has_all o s; spelled = refl }

pub returns-clause-spelled : goal.returns-clause-spelled
returns-clause-spelled c = λ o. (λ s. (spelling Second o, by_spelling o s), λ read. read.1.spellable)

pub returns-clause-exact : goal.returns-clause-exact
returns-clause-exact c = λ o. (
  λ s. let own = by_spelling o s in let bytes = spelling Second o in (
    bytes,
    spelling_bytes Second o s,
    spells_unbroken bytes Second o own,
    spells_version bytes Second o own,
    spells_read bytes Second o own,
  ),
  λ read. subst IsSpellable read.4 (read_spells read.0 read.1 read.2).spellable,
)

pub returns-clause-one : goal.returns-clause-one
returns-clause-one c = λ a b p q m n v e. (read_spells a p m).spelled ∙ ap (spelling (version_at a)) e
    ∙ ap (λ w. spelling w (object_of b)) v ∙ sym (read_spells b q n).spelled
