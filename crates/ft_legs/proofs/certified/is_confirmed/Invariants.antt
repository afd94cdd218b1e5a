use Rattle.std.proofs.Common.{◌≡◌, drop}
use Rattle.ft_types.specs.Objects.{reg_rows}
use Rattle.std.specs.List.{list_any}
use Rattle.ft_types.specs.declared.object.RegType.{RegType}
use Rattle.ft_semantics.specs.State.{word}
use Rattle.std.proofs.Common.{◌&&◌, ◌==◌}
use Rattle.ft_points.specs.Certified.{are_partners, is_confirmed}
use Rattle.ft_legs.proofs.certified.is_confirmed.Given as goal

abbrev pub invariant-loop-j : goal.invariant-loop-j
invariant-loop-j g l = let o = g.P.Program.object l.program in
    list_any (λ (q : RegType). are_partners l.row q && (word l.machine l.row.reg == word l.machine q.reg))
    (drop l.j (reg_rows o l.t))
    ≡ is_confirmed l.machine (reg_rows o l.t) l.row
