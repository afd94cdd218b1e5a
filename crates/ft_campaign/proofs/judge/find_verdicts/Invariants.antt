use Rattle.std.proofs.Common.{◌≤◌, ◌+◌, ◌*◌, ℕ, length, take, sum_by}
use Rattle.ft_isa.specs.declared.plan.Strike.{Strike}
use Rattle.ft_semantics.specs.State.{HasCells}
use Rattle.ft_campaign.specs.Snapshots.{IsCost}
use Rattle.ft_campaign.specs.Verdicts.{AreVerdicts}
use Rattle.ft_campaign.proofs.judge.find_verdicts.Given as goal

abbrev pub invariant-loop-fault : goal.invariant-loop-fault
invariant-loop-fault g l = record {
  verdicts : AreVerdicts (g.P.Program.object l.program) (take l.fault-index l.faults) l.wild l.n l.verdicts.items;
  cells : HasCells (length (g.P.Program.object l.program).cells) l.run.machine;
  steps : l.steps ≤ l.fn.steps + (l.fault-index + 1) * l.n;
  cost : (cost : Strike → ℕ) → ((x : Strike) → IsCost (g.P.Program.object l.program) l.wild l.n x (cost x)) →
      l.steps ≤ l.fn.steps + (l.n + sum_by cost (take l.fault-index l.faults));
}
