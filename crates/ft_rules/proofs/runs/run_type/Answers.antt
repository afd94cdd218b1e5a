use Rattle.std.proofs.Common.{sym, ◌∙◌}
use Rattle.ft_rules.proofs.Cells.{base_there, run_differs, run_is_full, run_is_typed}
use Rattle.ft_rules.proofs.runs.run_type.Goals as goal

pub returns-then-not-alike-clause-found : goal.returns-then-not-alike-clause-found
returns-then-not-alike-clause-found g c = sym (run_differs (g.P.Program.object c.args.program.now) c.args.first
    c.args.count c.cell-cell.result c.requires.run.length.0 c.cell-cell.ensures (sym c.are_all-alike.ensures
    ∙ c.if-not-alike.true))

pub returns-then-basic-ge-REFS-clause-found : goal.returns-then-basic-ge-REFS-clause-found
returns-then-basic-ge-REFS-clause-found g c = sym (run_is_full (g.P.Program.object c.args.program.now) c.args.first
    c.args.count c.cell-cell.result c.requires.run.length.0 c.cell-cell.ensures (sym c.are_all-alike.ensures
    ∙ c.if-not-alike.false) c.if-basic-ge-REFS.true)

pub returns-clause-found : goal.returns-clause-found
returns-clause-found g c = sym (run_is_typed (g.P.Program.object c.args.program.now) c.args.first c.args.count
    c.cell-cell.result c.requires.run.length.0 c.cell-cell.ensures (sym c.are_all-alike.ensures
    ∙ c.if-not-alike.false) c.if-basic-ge-REFS.false)

pub returns-clause-base : goal.returns-clause-base
returns-clause-base g c = base_there (g.P.Program.object c.args.program.now) c.args.first c.cell-cell.result
    c.requires.spellable c.cell-cell.ensures
