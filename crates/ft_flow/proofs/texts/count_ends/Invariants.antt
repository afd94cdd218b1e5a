use Rattle.std.proofs.Common.{◌≡◌, ◌+◌, ◌≤◌, drop}
use Rattle.ft_flow.specs.Faults.{ends}
use Rattle.ft_flow.proofs.texts.count_ends.Given as goal

abbrev pub invariant-loop-step : goal.invariant-loop-step
invariant-loop-step l = record {
  same : l.count + ends (drop l.step-index l.steps) ≡ ends l.steps;
  few : l.count ≤ l.step-index;
}
