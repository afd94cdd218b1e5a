use Rattle.std.proofs.Common.{sym, subst}
use Rattle.ft_format.specs.declared.version.Version.TheVariants.{Second}
use Rattle.ft_format.specs.Format.{Spells}
use Rattle.ft_tool.proofs.ending.put_object.Goals as goal

pub returns : goal.returns
returns g c =
    c.put_spelling.ensures c.args.object.now
    (subst (λ b. Spells b Second c.args.object.now) (sym c.as_slice.ensures.value) c.in-Ok.ensures.back.0)
