use Rattle.std.proofs.Common.{◌≡◌, ◌+◌, ◌*◌, ◌≤◌, ◌++◌, drop, map}
use Rattle.ft_contexts.specs.Costs.{tree_cost}
use Rattle.ft_norm.specs.Held.{Keeps}
use Rattle.ft_types.specs.Objects.{queue_rows}
use Rattle.ft_typing.specs.Context.{queue_pair}
use Rattle.ft_contexts.specs.Contexts.{pair_in, HoldsOwn, HoldsQueue}
use Rattle.ft_contexts.proofs.start.start_queue.Given as goal

abbrev pub invariant-loop-j : goal.invariant-loop-j
invariant-loop-j g l = let o = g.P.Program.object l.program in record {
  kept : Keeps l.fn.forms l.forms;
  steps : (g.M.Meter.counted l.meter) ≤ (g.M.Meter.counted l.fn.meter) + l.j * (2 * tree_cost o 0);
  own : HoldsOwn o l.forms l.own;
  held : HoldsQueue l.forms l.queue;
  left : map (pair_in l.forms) l.queue ++ map (queue_pair o) (drop l.j (queue_rows o l.t))
      ≡ map (queue_pair o) (queue_rows o l.t);
}
