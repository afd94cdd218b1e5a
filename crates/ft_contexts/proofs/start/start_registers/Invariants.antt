use Rattle.std.proofs.Common.{◌≡◌, ◌+◌, ◌*◌, ◌≤◌, drop, length}
use Rattle.std.specs.FinMap as finite
use Rattle.ft_contexts.specs.Costs.{tree_cost}
use Rattle.ft_norm.specs.Held.{Keeps}
use Rattle.ft_types.specs.Objects.{reg_rows}
use Rattle.ft_typing.specs.Context.{registers_after}
use Rattle.ft_contexts.specs.Contexts.{registers_in, HoldsOwn, HoldsRegisters, RegistersNameTypes}
use Rattle.ft_contexts.proofs.start.start_registers.Given as goal

abbrev pub invariant-loop-j : goal.invariant-loop-j
invariant-loop-j g l = let o = g.P.Program.object l.program in record {
  kept : Keeps l.fn.forms l.forms;
  steps : (g.M.Meter.counted l.meter) ≤ (g.M.Meter.counted l.fn.meter) + l.j * tree_cost o 0;
  own : HoldsOwn o l.forms l.own;
  sized : length l.registers ≡ 64;
  held : HoldsRegisters l.forms l.registers;
  types : RegistersNameTypes (length o.types) l.registers;
  left : registers_after o (registers_in l.forms 0 l.registers) (drop l.j (reg_rows o l.t))
      ≡ registers_after o finite.empty (reg_rows o l.t);
}
