use Rattle.std.proofs.Common.{◌≡◌, take}
use Rattle.ft_types.specs.Objects.{reg_rows}
use Rattle.ft_types.proofs.rows.copy_regs.Given as goal

abbrev pub invariant-loop-j : goal.invariant-loop-j
invariant-loop-j g l = l.regs.items ≡ take l.j (reg_rows (g.P.Program.object l.program) l.t)
