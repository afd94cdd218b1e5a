use Rattle.std.proofs.Common.{refl, sym, arith}
use Rattle.ft_format.specs.declared.header.Header.{Header}
use Rattle.ft_format.specs.Layout.{cell_layout}
use Rattle.ft_view.proofs.Opened.{sections, below, row_there}
use Rattle.ft_view.proofs.view.View.cell_record.Goals as goal

pub stretch-requires : goal.stretch-requires
stretch-requires c =
    let u = sections c.self.inside.header c.self.inside.at c.self.inside.bytes.now c.self.invariant in
    omega (
      arith,
      u.whole.whole,
      below c.self.inside.header c.self.inside.at c.self.inside.bytes.now c.args.self.now
          (λ (k : Header). k.cells) c.args.i c.self.invariant (sym c.self.view_is) c.requires,
    )

pub returns : goal.returns
returns c = row_there cell_layout (λ (k : Header). k.cells) (λ k. 48) c.self.inside.header c.self.inside.at
    c.self.inside.bytes.now c.args.self.now c.stretch.result.now _ c.args.i _ c.self.invariant (sym c.self.view_is)
    c.requires refl c.stretch.ensures.bytes c.read.ensures
