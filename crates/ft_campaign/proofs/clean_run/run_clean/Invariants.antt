use Rattle.std.proofs.Common.{◌≡◌, ◌+◌, ◌-◌, ◌≤◌, None, length}
use Rattle.ft_semantics.specs.declared.status.Status.TheVariants.{Running}
use Rattle.ft_semantics.specs.Run.{state_after, wild_after, outputs_after, status_after}
use Rattle.ft_campaign.specs.Snapshots.{AreSnapshots, AreLengths, IsDue}
use Rattle.ft_campaign.proofs.clean_run.run_clean.Given as goal

abbrev pub invariant-loop-k : goal.invariant-loop-k
invariant-loop-k g l =
    let o = g.P.Program.object l.fn.program in
    record {
      state : l.machine ≡ state_after o None l.fn.wild l.k;
      wild : l.left ≡ wild_after o None l.fn.wild l.k;
      running : status_after o None l.fn.wild l.k ≡ Running;
      outputs : l.list.outputs.items ≡ outputs_after o None l.fn.wild l.k;
      lengths : AreLengths o l.fn.wild l.k l.lengths.items;
      snapshots : AreSnapshots o l.fn.wild l.k l.snapshots.items;
      due : IsDue l.fn.n (length l.snapshots.items) l.due;
      within : l.k ≤ l.fn.n;
      steps : l.steps ≡ l.fn.steps + l.k;
    }

abbrev pub decreases-loop-k : goal.decreases-loop-k
decreases-loop-k g l = l.fn.n - l.k
