use Rattle.std.proofs.Common.{◌≡◌, ◌+◌, ◌≤◌, map, drop}
use Rattle.ft_static.specs.Form.{updates}
use Rattle.ft_norm.specs.Held.{IsMemory, Keeps, updates_held}
use Rattle.ft_typing.specs.RowWords.{pending_memory}
use Rattle.ft_contexts.specs.Contexts.{pair_in}
use Rattle.ft_contexts.proofs.context.Context.pending.Given as goal

abbrev pub invariant-loop-j : goal.invariant-loop-j
invariant-loop-j g l = record {
  kept : Keeps l.fn.forms l.forms;
  memory : IsMemory l.forms l.memory;
  count : updates (updates_held l.forms l.memory) ≤ updates (updates_held l.fn.forms l.self.memory) + l.j;
  steps : (g.M.Meter.counted l.meter) ≤ (g.M.Meter.counted l.fn.meter) + l.j;
  left : pending_memory (updates_held l.forms l.memory) (drop l.j (map (pair_in l.fn.forms) l.self.queue))
      ≡ pending_memory (updates_held l.fn.forms l.self.memory) (map (pair_in l.fn.forms) l.self.queue);
}
