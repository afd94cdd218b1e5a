use Rattle.std.proofs.Common.{◌≡◌, ◌+◌, ◌-◌, ◌≤◌, length, take, slice_range}
use Rattle.ft_static.specs.Form.{updates}
use Rattle.ft_norm.specs.Held.{Keeps}
use Rattle.ft_checker.specs.Costs.{instrs_cost}
use Rattle.ft_typing.specs.Accepted.{walk}
use Rattle.ft_typing.specs.Context.{start_context}
use Rattle.ft_types.specs.Objects.{block_instrs}
use Rattle.ft_contexts.specs.Contexts.{HoldsForms, HoldsShared, NamesTypes, context_in}
use Rattle.ft_checker.proofs.blocks.check_block.Given as goal

abbrev pub invariant-loop-i : goal.invariant-loop-i
invariant-loop-i g l = let o = g.P.Program.object l.program in record {
  kept : Keeps l.fn.forms l.forms;
  shared : HoldsShared o l.forms l.shared;
  held : HoldsForms l.forms l.context;
  types : NamesTypes o l.context;
  from : l.block.start ≤ l.i;
  queue : length (context_in l.forms l.context).queue ≤ 8;
  memory : updates (context_in l.forms l.context).memory ≤ length o.nodes + l.i;
  steps : (g.M.Meter.counted l.meter) + instrs_cost o (take l.block.start o.instrs) ≤ (g.M.Meter.counted l.fn.meter) +
      instrs_cost o (take l.i o.instrs);
  left : walk o (context_in l.forms l.context) (l.i - l.block.start) (slice_range o.instrs l.i l.past)
      ≡ walk o (start_context o l.block.code_type) 0 (block_instrs o l.b);
}
