use Rattle.std.proofs.Common.{◌≡◌, ◌++◌, slice_range}
use Rattle.std.specs.List.{flat_map}
use Rattle.ft_asm.specs.Pieces.{instr_text}
use Rattle.ft_asm.proofs.disassembly.put_codes.Given as goal

abbrev pub invariant-loop-i : goal.invariant-loop-i
invariant-loop-i g l = l.out.items ++ flat_map (instr_text (g.P.Program.object l.fn.program).substs)
    (slice_range (g.P.Program.object l.fn.program).instrs l.i l.fn.end) ≡ l.fn.out.items
    ++ flat_map (instr_text (g.P.Program.object l.fn.program).substs)
    (slice_range (g.P.Program.object l.fn.program).instrs l.fn.start l.fn.end)
