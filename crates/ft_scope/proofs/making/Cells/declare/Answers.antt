use Rattle.std.proofs.Common.{[], ◌∷◌, ◌++◌, refl, sym, subst}
use Rattle.ft_syntax.specs.Syntax.{declared, named}
use Rattle.ft_scope.specs.Made.{Made}
use Rattle.ft_scope.proofs.MadeCells.{ok_from, made_cell, made_var}
use Rattle.ft_scope.proofs.making.Cells.declare.Goals as goal

pub returns-in-Cell-clause-ok : goal.returns-in-Cell-clause-ok
returns-in-Cell-clause-ok c =
    ok_from c.cell.result c.cell.ensures.names c.cell.ensures.places c.cell.ensures.inits
    (λ names places inits ds m. subst (λ d. Made c.cell.new.self (ds ++ declared d ∷ [])) (sym c.in-Cell.is)
    (made_cell c.args.self.now c.cell.new.self ds (named c.in-Cell.name) c.in-Cell.name.text c.in-Cell.init refl names
    places inits m))

pub returns-in-Var-clause-ok : goal.returns-in-Var-clause-ok
returns-in-Var-clause-ok c = λ ds m.
    subst (λ d. Made c.args.self.now (ds ++ declared d ∷ [])) (sym c.in-Var.is)
    (made_var c.args.self.now ds (named c.in-Var.name) m)
