use Rattle.std.proofs.Common.{sym, arith}
use Rattle.ft_format.specs.declared.header.Header.{Header}
use Rattle.ft_format.specs.Layout.{subst_layout}
use Rattle.ft_format.specs.Broken.{substs_at}
use Rattle.ft_view.proofs.Opened.{sections, below, row_there}
use Rattle.ft_view.proofs.view.View.subst_record.Goals as goal

pub stretch-requires : goal.stretch-requires
stretch-requires c =
    let u = sections c.self.inside.header c.self.inside.at c.self.inside.bytes.now c.self.invariant in
    omega (
      arith,
      u.whole.whole,
      c.self.invariant.places.substs,
      below c.self.inside.header c.self.inside.at c.self.inside.bytes.now c.args.self.now (λ (k : Header).
          k.substs) c.args.i c.self.invariant (sym c.self.view_is) c.requires,
    )

pub returns : goal.returns
returns c = row_there subst_layout (λ (k : Header). k.substs) substs_at c.self.inside.header c.self.inside.at
    c.self.inside.bytes.now c.args.self.now c.stretch.result.now _ c.args.i _ c.self.invariant (sym c.self.view_is)
    c.requires (omega (arith, c.self.invariant.places.substs)) c.stretch.ensures.bytes c.read.ensures
