use Rattle.std.proofs.Common.{◌+◌, get_or, drop, sym, ap, ◌∙◌, arith}
use Rattle.std.proofs.Math.ListN.{drop_of_length-le}
use Rattle.ft_syntax.specs.Syntax.{declared, declared_list}
use Rattle.ft_syntax.proofs.DeclaredLists.{declared_empty}
use Rattle.ft_scope.specs.Scope.{wrong_length}
use Rattle.ft_scope.proofs.DeclaredNames.{declared_drop, outside}
use Rattle.ft_scope.proofs.MadeCells.{wrong_here, wrong_first}
use Rattle.ft_scope.proofs.making.first_wrong_length.Goals as goal

pub returns-in-Some : goal.returns-in-Some
returns-in-Some c =
    let all = c.args.decls.now in
    let i = c.loop-d.d-index in
    let d = get_or all i outside in
    sym (c.loop-d.invariant ∙ ap wrong_length (declared_drop all i outside (omega arith))
    ∙ wrong_here (declared d) (declared_list (drop (i + 1) all)) c.in-Some.at (sym c.wrong.ensures ∙ c.in-Some.is))

pub loop-d-preserved : goal.loop-d-preserved
loop-d-preserved c =
    let all = c.args.decls.now in
    let i = c.loop-d.d-index in
    let d = get_or all i outside in
    c.loop-d.invariant ∙ ap wrong_length (declared_drop all i outside (omega arith))
    ∙ wrong_first (declared d) (declared_list (drop (i + 1) all)) (sym c.wrong.ensures ∙ c.in_default.is)

pub returns : goal.returns
returns c =
    let all = c.args.decls.now in
    sym (c.loop-d.invariant ∙ ap (λ v. wrong_length (declared_list v)) (drop_of_length-le all (omega arith))
    ∙ ap wrong_length declared_empty)
