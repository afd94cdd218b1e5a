use Rattle.std.proofs.Common.{◌≡◌, refl, subst, arith}
use Rattle.ft_format.specs.Values.{header_of}
use Rattle.ft_format.specs.Broken.{IsSmall, header_at}
use Rattle.ft_view.proofs.Whole.{unbroken}
use Rattle.ft_view.proofs.view.View.again.Goals as goal

pub read-header-requires : goal.read-header-requires
read-header-requires c =
    let whole = (unbroken c.args.bytes.now c.requires.unbroken).whole.whole in
    omega (arith, whole)

pub of-requires : goal.of-requires
of-requires c =
    let same : header_at c.args.bytes.now ≡ c.read-header.result =
    subst (λ ns. header_of ns ≡ c.read-header.result) c.read-header.ensures refl in
    subst IsSmall same (unbroken c.args.bytes.now c.requires.unbroken).whole.small
