use Rattle.std.proofs.lemmas.Nat.{xor_lt}
use Rattle.ft_norm.proofs.Ways.{level_agrees, level_differ}
use Rattle.ft_norm.proofs.turns.level.Goals as goal

pub returns-clause-agree : goal.returns-clause-agree
returns-clause-agree c = level_agrees c.args.a c.args.b (xor_lt 32 c.args.a c.args.b c.ranges.a.fits c.ranges.b.fits)

pub returns-clause-differ : goal.returns-clause-differ
returns-clause-differ c = level_differ c.args.a c.args.b (xor_lt 32 c.args.a c.args.b c.ranges.a.fits c.ranges.b.fits)
