use Rattle.std.proofs.Common.{◌≤◌, length, arith, subst}
use Rattle.ft_syntax.specs.Size.{node_count}
use Rattle.ft_syntax.specs.TreeOf.{tree_from}
use Rattle.ft_syntax.specs.Grammar.{Derives}
use Rattle.ft_syntax.specs.View.{lexemes}
use Rattle.ft_syntax.proofs.Sizes.{byte_each}
use Rattle.ft_syntax.proofs.source.parse.Goals as goal

pub invariant_of-result : goal.invariant_of-result
invariant_of-result c =
    let decls = c.in_ok-decls.decls.items in
    let body = c.in_ok-decls.body.items in
    let derived : Derives (lexemes c.in_ok-all.all.items) (tree_from decls body) =
    subst (λ v. Derives (lexemes v) (tree_from decls body)) c.deref.ensures.value c.in_ok-decls.ensures.ok.0 in
    let small : node_count decls body ≤ length c.args.text.now =
    byte_each c.args.text.now (lexemes c.in_ok-all.all.items) decls body c.in_ok-all.ensures.ok derived in
    record { is_small = omega (arith, small) }

pub returns-clause-nodes : goal.returns-clause-nodes
returns-clause-nodes c =
    let decls = c.in_ok-decls.decls.items in
    let body = c.in_ok-decls.body.items in
    byte_each c.args.text.now (lexemes c.in_ok-all.all.items) decls body c.in_ok-all.ensures.ok
    (subst (λ v. Derives (lexemes v) (tree_from decls body)) c.deref.ensures.value c.in_ok-decls.ensures.ok.0)
