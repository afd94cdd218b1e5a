use Rattle.std.proofs.Common.{ℕ}
use Rattle.ft_norm.specs.Ways.{Leads}
use Rattle.ft_norm.proofs.turns.turn.Given as goal

abbrev pub invariant-loop-path : goal.invariant-loop-path
invariant-loop-path l = record {
  leads : (m : ℕ) → Leads l.entries m l.at l.i l.fn.v → Leads l.entries m l.at l.i l.v;
}

abbrev pub decreases-loop-path : goal.decreases-loop-path
decreases-loop-path l = l.v
