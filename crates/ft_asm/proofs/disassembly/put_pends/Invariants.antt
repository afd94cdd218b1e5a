use Rattle.std.proofs.Common.{◌≡◌, ◌++◌, drop}
use Rattle.std.specs.List.{flat_map}
use Rattle.ft_types.specs.Objects.{queue_rows}
use Rattle.ft_asm.specs.Pieces.{pend_text}
use Rattle.ft_asm.proofs.disassembly.put_pends.Given as goal

abbrev pub invariant-loop-j : goal.invariant-loop-j
invariant-loop-j g l = l.out.items ++ flat_map pend_text (drop l.j (queue_rows (g.P.Program.object l.fn.program) l.t))
    ≡ l.fn.out.items ++ flat_map pend_text (queue_rows (g.P.Program.object l.fn.program) l.t)
