use Rattle.std.proofs.Common.{length, ℕ, ◌≡◌, ◌<◌, slice_get, Some}
use Rattle.ft_norm.specs.Ways.{IsTurn, Leads}
use Rattle.ft_norm.proofs.turns.path_over.Given as goal

abbrev pub invariant-loop-i : goal.invariant-loop-i
invariant-loop-i l = record {
  leads : Leads l.entries l.fn.m l.fn.at l.i l.v;
  size : length l.turns ≡ 32;
  turns : (k t : ℕ) → k < l.i → slice_get l.turns k ≡ Some t → IsTurn l.entries l.fn.m l.fn.at k t;
}
