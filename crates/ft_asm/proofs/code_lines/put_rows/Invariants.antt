use Rattle.std.proofs.Common.{◌≡◌, ◌++◌, slice_range}
use Rattle.std.specs.List.{flat_map}
use Rattle.ft_asm.specs.Pieces.{row_text}
use Rattle.ft_asm.proofs.code_lines.put_rows.Given as goal

abbrev pub invariant-loop-n : goal.invariant-loop-n
invariant-loop-n g l = l.out.items ++ flat_map row_text
    (slice_range (g.P.Program.object l.fn.program).substs l.n l.fn.subst.past) ≡ l.fn.out.items
    ++ flat_map row_text (slice_range (g.P.Program.object l.fn.program).substs l.fn.subst.first l.fn.subst.past)
