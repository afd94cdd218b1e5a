use Rattle.std.proofs.Common.{sym, arith}
use Rattle.ft_format.specs.declared.header.Header.{Header}
use Rattle.ft_format.specs.Layout.{type_layout}
use Rattle.ft_format.specs.Broken.{types_at}
use Rattle.ft_view.proofs.Opened.{sections, below, row_there}
use Rattle.ft_view.proofs.view.View.type_record.Goals as goal

pub stretch-requires : goal.stretch-requires
stretch-requires c =
    let u = sections c.self.inside.header c.self.inside.at c.self.inside.bytes.now c.self.invariant in
    omega (
      arith,
      u.whole.whole,
      c.self.invariant.places.types,
      below c.self.inside.header c.self.inside.at c.self.inside.bytes.now c.args.self.now (λ (k : Header).
          k.types) c.args.i c.self.invariant (sym c.self.view_is) c.requires,
    )

pub returns : goal.returns
returns c = row_there type_layout (λ (k : Header). k.types) types_at c.self.inside.header c.self.inside.at
    c.self.inside.bytes.now c.args.self.now c.stretch.result.now _ c.args.i _ c.self.invariant (sym c.self.view_is)
    c.requires (omega (arith, c.self.invariant.places.types)) c.stretch.ensures.bytes c.read.ensures
