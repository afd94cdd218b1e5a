use Rattle.std.proofs.Common.{◌≡◌, drop}
use Rattle.ft_typing.specs.Accepted.{cell_refusal, first_refusal}
use Rattle.ft_checker.proofs.cells.check_cells.Given as goal

abbrev pub invariant-loop-k : goal.invariant-loop-k
invariant-loop-k g l = let o = g.P.Program.object l.program in
    first_refusal (cell_refusal o) l.k (drop l.k o.cells) ≡ first_refusal (cell_refusal o) 0 o.cells
