use Rattle.std.proofs.Common.{◌&&◌, ◌==◌, sym, ◌∙◌}
use Rattle.ft_types.specs.declared.object.RegType.{RegType}
use Rattle.ft_types.specs.Objects.{reg_rows}
use Rattle.ft_semantics.specs.State.{word}
use Rattle.ft_points.specs.Certified.{are_partners}
use Rattle.ft_legs.proofs.Walks.{any_here, any_later}
use Rattle.ft_legs.proofs.certified.is_confirmed.Goals as goal

pub returns-then-same : goal.returns-then-same
returns-then-same g c =
    sym (any_here (λ (q : RegType). are_partners c.args.row q
    && (word c.args.machine.now c.args.row.reg == word c.args.machine.now q.reg))
    (reg_rows (g.P.Program.object c.args.program.now) c.args.t) c.loop-j.j c.reg_row-other.result
    c.reg_row-other.ensures (sym c.confirms-same.ensures ∙ c.if-same.true)) ∙ c.loop-j.invariant

pub loop-j-preserved : goal.loop-j-preserved
loop-j-preserved g c =
    sym (any_later (λ (q : RegType). are_partners c.args.row q
    && (word c.args.machine.now c.args.row.reg == word c.args.machine.now q.reg))
    (reg_rows (g.P.Program.object c.args.program.now) c.args.t) c.loop-j.j c.reg_row-other.result
    c.reg_row-other.ensures (sym c.confirms-same.ensures ∙ c.if-same.false)) ∙ c.loop-j.invariant
