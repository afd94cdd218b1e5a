use Rattle.ft_scope.proofs.MadeCells.{made_none, made_more}
use Rattle.ft_scope.proofs.making.Cells.array.Goals as goal

pub loop-place-init : goal.loop-place-init
loop-place-init c = λ ds n at is m. made_none c.args.self.now ds n at c.args.init m

pub loop-place-preserved : goal.loop-place-preserved
loop-place-preserved c = λ ds n at is m.
    made_more c.loop-place.self c.cell.new.self ds n c.args.name c.loop-place.place at c.args.init is
    c.in_default.ensures.names c.in_default.ensures.places c.in_default.ensures.inits
    (c.loop-place.invariant ds n at is m)
