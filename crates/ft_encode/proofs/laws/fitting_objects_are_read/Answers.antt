use Rattle.std.proofs.Common.{subst}
use Rattle.ft_types.specs.Spellable.{IsSpellable}
use Rattle.ft_format.specs.Rows.{spelling}
use Rattle.ft_format.specs.declared.version.Version.TheVariants.{Second}
use Rattle.ft_format.proofs.ReadWhole.{read_spells}
use Rattle.ft_encode.proofs.Fitting.{fitting_read, fitting_version}
use Rattle.ft_encode.proofs.laws.fitting_objects_are_read.Goals as goal

pub returns : goal.returns
returns c = record {
  read = fitting_read;
  version = fitting_version;
  lawful = λ o f bytes none. subst IsSpellable (fitting_read Second o f)
      (read_spells (spelling Second o) bytes none).spellable;
}
