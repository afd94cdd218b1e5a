use Rattle.std.proofs.Common.{◌≡◌, ◌++◌, drop}
use Rattle.std.specs.List.{flat_map}
use Rattle.ft_asm.specs.Listings.{parts_of}
use Rattle.ft_asm.specs.Pieces.{part_text}
use Rattle.ft_asm.proofs.disassembly.put_parts.Given as goal

abbrev pub invariant-loop-b : goal.invariant-loop-b
invariant-loop-b g l =
    l.out.items ++ flat_map part_text (parts_of (g.P.Program.object l.fn.program).instrs
    (g.P.Program.object l.fn.program).substs (drop l.b (g.P.Program.object l.fn.program).blocks))
    ≡ l.fn.out.items ++ flat_map part_text (parts_of (g.P.Program.object l.fn.program).instrs
    (g.P.Program.object l.fn.program).substs (g.P.Program.object l.fn.program).blocks)
