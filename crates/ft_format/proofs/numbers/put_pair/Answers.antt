use Rattle.std.proofs.Common.{ap, ◌∙◌, subst}
use Rattle.std.specs.Prelude.{OnOk}
use Rattle.std.specs.Int.{w64}
use Rattle.ft_format.specs.Puts.{Puts}
use Rattle.ft_format.specs.Layout.{bytes_of}
use Rattle.ft_format.proofs.Halves.{halves}
use Rattle.ft_format.proofs.numbers.put_pair.Goals as goal

pub returns : goal.returns
returns c =
    subst (λ p. OnOk c.put_u64.result (Puts c.args.out.now.items c.put_u64.new.out.items p))
    (ap (bytes_of w64) c.joined.ensures ∙ halves c.args.first c.args.second c.ranges.second.fits) c.put_u64.ensures
