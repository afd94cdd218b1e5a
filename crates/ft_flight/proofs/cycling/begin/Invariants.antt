use Rattle.std.proofs.Common.{◌≡◌, ℕ, ◌<◌, length, get_or}
use Rattle.ft_types.specs.Objects.{init_of}
use Rattle.ft_flight.proofs.cycling.begin.Given as goal

abbrev pub invariant-loop-k : goal.invariant-loop-k
invariant-loop-k g l = record {
  count : length l.cells ≡ length l.fn.cells;
  words : (i : ℕ) → i < l.k → get_or l.cells i 0 ≡ init_of (g.P.Program.object l.program) i;
}
