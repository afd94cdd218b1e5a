use Rattle.std.proofs.Common.{refl, sym, ◌∙◌, arith}
use Rattle.ft_typing.specs.Accepted.{cell_refusal}
use Rattle.ft_rules.proofs.Cells.{cell_found}
use Rattle.ft_checker.proofs.Turned.{first_turn, first_end, cell_passes, cell_fails}
use Rattle.ft_checker.proofs.cells.check_cells.Goals as goal

pub returns-then-not-typed : goal.returns-then-not-typed
returns-then-not-typed g c =
    let x = cell_found (g.P.Program.object c.args.program.now) c.loop-k.k c.cell-cell.result c.cell-cell.ensures in
    let turn = first_turn (cell_refusal (g.P.Program.object c.args.program.now)) c.loop-k.k
    (g.P.Program.object c.args.program.now).cells x.0 x.1.0 in
    let refused = cell_fails (g.P.Program.object c.args.program.now) c.loop-k.k x.0 c.cell-cell.result x.1.1
    (sym c.has_type-typed.ensures ∙ c.if-not-typed.true) in
    sym c.loop-k.invariant ∙ turn ∙ rw refused refl

pub loop-k-preserved : goal.loop-k-preserved
loop-k-preserved g c =
    let x = cell_found (g.P.Program.object c.args.program.now) c.loop-k.k c.cell-cell.result c.cell-cell.ensures in
    let turn = first_turn (cell_refusal (g.P.Program.object c.args.program.now)) c.loop-k.k
    (g.P.Program.object c.args.program.now).cells x.0 x.1.0 in
    let passed = cell_passes (g.P.Program.object c.args.program.now) c.loop-k.k x.0 c.cell-cell.result x.1.1
    (sym c.has_type-typed.ensures ∙ c.if-not-typed.false) in
    sym (rw passed at turn) ∙ c.loop-k.invariant

pub returns : goal.returns
returns g c = sym c.loop-k.invariant ∙ first_end (cell_refusal (g.P.Program.object c.args.program.now)) c.loop-k.k
    (g.P.Program.object c.args.program.now).cells (omega arith)
