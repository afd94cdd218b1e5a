use Rattle.std.proofs.Common.{◌≡◌, ◌+◌, ◌*◌, ◌≤◌, drop}
use Rattle.ft_static.specs.Form.{updates}
use Rattle.ft_contexts.specs.Costs.{tree_cost}
use Rattle.ft_norm.specs.Held.{Keeps, updates_held}
use Rattle.ft_types.specs.Objects.{reg_rows}
use Rattle.ft_typing.specs.RowWords.{are_like}
use Rattle.ft_contexts.specs.Contexts.{RemembersUnder, context_in, replacement_in}
use Rattle.ft_contexts.proofs.context.Context.registers_are_like.Given as goal

abbrev pub invariant-loop-j : goal.invariant-loop-j
invariant-loop-j g l = let o = g.P.Program.object l.program in record {
  kept : Keeps l.fn.forms l.forms;
  made : RemembersUnder o l.forms l.put l.made;
  steps : (g.M.Meter.counted l.meter) ≤ (g.M.Meter.counted l.fn.meter) + l.j * tree_cost o
      (updates (updates_held l.fn.forms l.put.memory));
  left : are_like o (replacement_in l.fn.forms l.put) (context_in l.fn.forms l.self) (drop l.j (reg_rows o l.t))
      ≡ are_like o (replacement_in l.fn.forms l.put) (context_in l.fn.forms l.self) (reg_rows o l.t);
}
