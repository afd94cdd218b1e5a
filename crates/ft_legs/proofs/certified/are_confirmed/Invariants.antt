use Rattle.std.proofs.Common.{◌≡◌, drop}
use Rattle.std.specs.List.{list_all}
use Rattle.ft_types.specs.Objects.{reg_rows}
use Rattle.ft_points.specs.Certified.{is_confirmed}
use Rattle.ft_legs.proofs.certified.are_confirmed.Given as goal

abbrev pub invariant-loop-j : goal.invariant-loop-j
invariant-loop-j g l = let o = g.P.Program.object l.program in
    list_all (is_confirmed l.machine (reg_rows o l.t)) (drop l.j (reg_rows o l.t))
    ≡ list_all (is_confirmed l.machine (reg_rows o l.t)) (reg_rows o l.t)
