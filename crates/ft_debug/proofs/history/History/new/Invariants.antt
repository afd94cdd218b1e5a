use Rattle.std.proofs.Common.{◌≡◌, length}
use Rattle.std.specs.Prelude.{All}
use Rattle.ft_debug.specs.Kept.{HasMomentCells}
use Rattle.ft_debug.proofs.history.History.new.Given as goal

abbrev pub invariant-loop : goal.invariant-loop
invariant-loop g l = record {
  length_is : length l.moments.items ≡ l.counter;
  capacity_is : l.moments.capacity ≡ 4096;
  cells : All (HasMomentCells (length (g.P.Program.object l.program).cells)) l.moments.items;
}
