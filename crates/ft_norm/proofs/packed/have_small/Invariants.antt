use Rattle.std.proofs.Common.{ℕ, ◌<◌}
use Rattle.std.specs.Prelude.{slice_index_or}
use Rattle.ft_norm.specs.Packing.{AreSmall}
use Rattle.ft_norm.proofs.Packing.{blank}
use Rattle.ft_norm.proofs.packed.have_small.Given as goal

abbrev pub invariant-loop-term : goal.invariant-loop-term
invariant-loop-term l = (k : ℕ) → k < l.term-index → AreSmall (slice_index_or l.terms k blank).atoms
