use Rattle.std.proofs.Common.{◌≡◌, ◌≤◌, ◌+◌, ◌-◌, None}
use Rattle.ft_semantics.specs.Run.{outputs_after}
use Rattle.ft_campaign.specs.Snapshots.{IsRacing}
use Rattle.ft_campaign.proofs.struck_run.judge_run.Given as goal

abbrev pub invariant-loop-s : goal.invariant-loop-s
invariant-loop-s g l = record {
  racing : IsRacing (g.P.Program.object l.fn.program) l.fn.trial.fault l.fn.trial.wild.now l.fn.trial.n l.s
      l.run.machine l.run.left l.expected.at;
  whole : l.expected.whole.now ≡ outputs_after (g.P.Program.object l.fn.program) None l.fn.trial.wild.now l.fn.trial.n;
  from : l.fn.trial.fault.step ≤ l.s;
  steps : l.steps ≡ l.fn.steps + (l.s - l.fn.trial.fault.step);
}

abbrev pub decreases-loop-s : goal.decreases-loop-s
decreases-loop-s g l = l.fn.trial.n - l.s
