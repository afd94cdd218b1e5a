use Rattle.std.proofs.Common.{◌≡◌, ◌++◌, drop}
use Rattle.std.specs.List.{flat_map}
use Rattle.ft_asm.specs.Pieces.{node_text}
use Rattle.ft_asm.proofs.disassembly.put_nodes.Given as goal

abbrev pub invariant-loop-n : goal.invariant-loop-n
invariant-loop-n g l = l.out.items ++ flat_map node_text (drop l.n (g.P.Program.object l.fn.program).nodes)
    ≡ l.fn.out.items ++ flat_map node_text (g.P.Program.object l.fn.program).nodes
