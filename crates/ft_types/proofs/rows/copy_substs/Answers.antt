use Rattle.std.proofs.Common.{rules}
use Rattle.ft_types.proofs.Copies.{grown}
use Rattle.ft_types.proofs.rows.copy_substs.Goals as goal

pub loop-n-preserved : goal.loop-n-preserved
loop-n-preserved g c = let e = grown _ _ _ _ c.loop-n.invariant c.subst_row.ensures in search (rules, e)
