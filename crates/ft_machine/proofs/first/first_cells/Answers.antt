use Rattle.std.proofs.Common.{length, arith}
use Rattle.ft_types.specs.Objects.{init_of}
use Rattle.ft_machine.proofs.Arrayed.{filled}
use Rattle.ft_machine.proofs.first.first_cells.Goals as goal

pub returns : goal.returns
returns g c =
    let o = g.P.Program.object c.args.program.now in
    filled c.loop-k.words.items c.loop-k.k (length o.cells) (init_of o) c.loop-k.invariant.count
    (omega (arith, c.loop-k-test.false, c.loop-k.auto.k-end, c.counts-k-end.ensures.cells)) c.loop-k.invariant.words
