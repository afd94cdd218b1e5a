use Rattle.std.proofs.Common.{◌≡◌, Some, refl, ap, ◌∙◌}
use Rattle.std.specs.Prelude.{slice_get}
use Rattle.ft_types.specs.declared.object.Object.{Object}
use Rattle.ft_format.specs.declared.version.Version.{Version}
use Rattle.ft_format.specs.declared.version.Version.TheVariants.{First, Second}
use Rattle.ft_format.specs.Versions.{number}
use Rattle.ft_format.specs.Layout.{written, bytes_of}
use Rattle.ft_format.specs.Rows.{spelling}
use Rattle.ft_format.proofs.ReadWhole.{read_spells}
use Rattle.ft_format.proofs.Write.{spells_unbroken, spells_read, spells_version}
use Rattle.ft_format.proofs.laws.rules_are_exact.Goals as goal

-- byte 7 of a spelling is the number of the version
byte_7 : (v : Version) (o : Object) → slice_get (spelling v o) 7 ≡ Some (number v)
unfolding spelling written bytes_of
byte_7 First o = refl
byte_7 Second o = refl

pub returns-clause-spelled : goal.returns-clause-spelled
returns-clause-spelled c = read_spells

pub returns-clause-unbroken : goal.returns-clause-unbroken
returns-clause-unbroken c = spells_unbroken

pub returns-clause-one : goal.returns-clause-one
returns-clause-one c = spells_read

pub returns-clause-version : goal.returns-clause-version
returns-clause-version c = spells_version

pub returns-clause-number : goal.returns-clause-number
returns-clause-number c = λ bytes v o p. ap (λ l. slice_get l 7) p.spelled ∙ byte_7 v o
