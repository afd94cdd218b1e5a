use Rattle.std.proofs.Common.{◌≡◌, ◌+◌, ◌*◌, ◌≤◌, drop, length}
use Rattle.ft_static.specs.Form.{updates}
use Rattle.ft_contexts.specs.Costs.{tree_cost}
use Rattle.ft_norm.specs.Held.{Keeps, updates_held}
use Rattle.ft_types.specs.Objects.{queue_rows}
use Rattle.ft_typing.specs.RowWords.{is_queue_like}
use Rattle.ft_contexts.specs.Contexts.{RemembersUnder, context_in, replacement_in}
use Rattle.ft_contexts.proofs.context.Context.queue_is_like.Given as goal

abbrev pub invariant-loop-j : goal.invariant-loop-j
invariant-loop-j g l = let o = g.P.Program.object l.program in record {
  kept : Keeps l.fn.forms l.forms;
  made : RemembersUnder o l.forms l.put l.made;
  steps : (g.M.Meter.counted l.meter) ≤ (g.M.Meter.counted l.fn.meter) + l.j *
      (2 * tree_cost o (updates (updates_held l.fn.forms l.put.memory)));
  count : length l.self.queue ≡ l.rows;
  left : is_queue_like o (replacement_in l.fn.forms l.put) (drop l.j (context_in l.fn.forms l.self).queue)
      (drop l.j (queue_rows o l.t)) ≡ is_queue_like o (replacement_in l.fn.forms l.put)
      (context_in l.fn.forms l.self).queue (queue_rows o l.t);
}
