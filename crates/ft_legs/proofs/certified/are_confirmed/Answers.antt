use Rattle.std.proofs.Common.{sym, ◌∙◌}
use Rattle.ft_types.specs.Objects.{reg_rows}
use Rattle.ft_points.specs.Certified.{is_confirmed}
use Rattle.ft_legs.proofs.Walks.{all_here, all_later}
use Rattle.ft_legs.proofs.certified.are_confirmed.Goals as goal

pub returns-then-not-confirmed : goal.returns-then-not-confirmed
returns-then-not-confirmed g c =
    let rows = reg_rows (g.P.Program.object c.args.program.now) c.args.t in
    sym (all_here (is_confirmed c.args.machine.now rows) rows c.loop-j.j c.reg_row-row.result c.reg_row-row.ensures
    (sym c.is_confirmed-confirmed.ensures ∙ c.if-not-confirmed.true)) ∙ c.loop-j.invariant

pub loop-j-preserved : goal.loop-j-preserved
loop-j-preserved g c =
    let rows = reg_rows (g.P.Program.object c.args.program.now) c.args.t in
    sym (all_later (is_confirmed c.args.machine.now rows) rows c.loop-j.j c.reg_row-row.result c.reg_row-row.ensures
    (sym c.is_confirmed-confirmed.ensures ∙ c.if-not-confirmed.false)) ∙ c.loop-j.invariant
