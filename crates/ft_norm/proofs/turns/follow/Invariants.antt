use Rattle.std.proofs.Common.{ℕ}
use Rattle.ft_norm.specs.Ways.{AreAlike, IsUpdate, Skips}
use Rattle.ft_norm.proofs.turns.follow.Given as goal

abbrev pub invariant-loop-path : goal.invariant-loop-path
invariant-loop-path l = record {
  way : (a v k : ℕ) → IsUpdate l.entries l.fn.m a v k → AreAlike l.entries l.p a → AreAlike l.entries l.p l.base
      × Skips l.entries l.fn.m l.p l.v;
}

abbrev pub decreases-loop-path : goal.decreases-loop-path
decreases-loop-path l = l.v
