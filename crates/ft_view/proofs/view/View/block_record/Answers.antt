use Rattle.std.proofs.Common.{sym, arith}
use Rattle.ft_format.specs.declared.header.Header.{Header}
use Rattle.ft_format.specs.Layout.{pair_layout}
use Rattle.ft_format.specs.Broken.{blocks_at}
use Rattle.ft_view.proofs.Opened.{sections, below, row_there}
use Rattle.ft_view.proofs.view.View.block_record.Goals as goal

pub stretch-requires : goal.stretch-requires
stretch-requires c =
    let u = sections c.self.inside.header c.self.inside.at c.self.inside.bytes.now c.self.invariant in
    omega (
      arith,
      u.whole.whole,
      c.self.invariant.places.blocks,
      below c.self.inside.header c.self.inside.at c.self.inside.bytes.now c.args.self.now (λ (k : Header).
          k.blocks) c.args.i c.self.invariant (sym c.self.view_is) c.requires,
    )

pub returns : goal.returns
returns c = row_there pair_layout (λ (k : Header). k.blocks) blocks_at c.self.inside.header c.self.inside.at
    c.self.inside.bytes.now c.args.self.now c.stretch.result.now _ c.args.i _ c.self.invariant (sym c.self.view_is)
    c.requires (omega (arith, c.self.invariant.places.blocks)) c.stretch.ensures.bytes c.read.ensures
