use Rattle.std.proofs.Common.{◌≡◌, ◌++◌, drop}
use Rattle.std.specs.List.{flat_map}
use Rattle.ft_asm.specs.Pieces.{cell_text}
use Rattle.ft_asm.proofs.disassembly.put_cells.Given as goal

abbrev pub invariant-loop-k : goal.invariant-loop-k
invariant-loop-k g l = l.out.items ++ flat_map cell_text (drop l.k (g.P.Program.object l.fn.program).cells)
    ≡ l.fn.out.items ++ flat_map cell_text (g.P.Program.object l.fn.program).cells
