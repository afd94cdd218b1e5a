use Rattle.std.proofs.Common.{◌≡◌, ◌++◌, drop}
use Rattle.std.specs.List.{flat_map}
use Rattle.ft_asm.specs.Pieces.{type_text}
use Rattle.ft_asm.proofs.disassembly.put_types.Given as goal

abbrev pub invariant-loop-t : goal.invariant-loop-t
invariant-loop-t g l = l.out.items ++ flat_map type_text (drop l.t (g.P.Program.object l.fn.program).types)
    ≡ l.fn.out.items ++ flat_map type_text (g.P.Program.object l.fn.program).types
