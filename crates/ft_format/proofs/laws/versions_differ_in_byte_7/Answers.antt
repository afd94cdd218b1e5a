use Rattle.std.proofs.Common.{◌≡◌, refl, ap, ◌∙◌, set}
use Rattle.ft_types.specs.declared.object.Object.{Object}
use Rattle.ft_format.specs.declared.version.Version.TheVariants.{First, Second}
use Rattle.ft_format.specs.Layout.{written, bytes_of}
use Rattle.ft_format.specs.Rows.{spelling}
use Rattle.ft_format.proofs.Versions.{has_all}
use Rattle.ft_format.proofs.laws.versions_differ_in_byte_7.Goals as goal

-- a version 1 spelling with byte 7 set to 2 is the version 2 spelling
with_byte_7 : (o : Object) → set (spelling First o) 7 2 ≡ spelling Second o
unfolding spelling written bytes_of
with_byte_7 o = refl

pub returns : goal.returns
returns c = λ bytes o p. record {
  spellable = p.spellable;
  has = has_all o p.spellable;
  spelled = ap (λ l. set l 7 2) p.spelled ∙ with_byte_7 o;
}
