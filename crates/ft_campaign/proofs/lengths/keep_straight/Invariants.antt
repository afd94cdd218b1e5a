use Rattle.std.proofs.Common.{◌≡◌, ℕ, ◌+◌, ◌-◌, ◌<◌, ◌≤◌, None, List, length}
use Rattle.ft_isa.specs.declared.plan.Wild.{Wild}
use Rattle.ft_semantics.specs.declared.status.Status.TheVariants.{Running}
use Rattle.ft_semantics.specs.Run.{state_after, status_after}
use Rattle.ft_campaign.specs.Snapshots.{AreLengths, IsReady}
use Rattle.ft_campaign.proofs.lengths.keep_straight.Given as goal

abbrev pub invariant-loop-steps : goal.invariant-loop-steps
invariant-loop-steps g l =
    let o = g.P.Program.object l.fn.program in
    record {
      few : l.steps ≤ l.fn.most;
      lengths : (w : List Wild) (k : ℕ) → IsReady l.fn.pc l.fn.entries (state_after o None w k) →
          AreLengths o w k l.fn.lengths.items → AreLengths o w (k + l.steps) l.lengths.items;
      ready : (w : List Wild) (k : ℕ) → IsReady l.fn.pc l.fn.entries (state_after o None w k) →
          l.i < length o.instrs → status_after o None w (k + l.steps) ≡ Running →
          IsReady (1 + l.i) l.entries (state_after o None w (k + l.steps));
    }

abbrev pub decreases-loop-steps : goal.decreases-loop-steps
decreases-loop-steps g l = l.fn.most - l.steps
