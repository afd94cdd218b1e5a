use Rattle.std.proofs.Common.{◌≡◌, ◌++◌, drop}
use Rattle.std.specs.List.{flat_map}
use Rattle.ft_types.specs.Objects.{reg_rows}
use Rattle.ft_asm.specs.Pieces.{reg_text}
use Rattle.ft_asm.proofs.disassembly.put_regs.Given as goal

abbrev pub invariant-loop-j : goal.invariant-loop-j
invariant-loop-j g l = l.out.items ++ flat_map reg_text (drop l.j (reg_rows (g.P.Program.object l.fn.program) l.t))
    ≡ l.fn.out.items ++ flat_map reg_text (reg_rows (g.P.Program.object l.fn.program) l.t)
