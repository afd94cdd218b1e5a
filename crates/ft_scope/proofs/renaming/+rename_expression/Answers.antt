use Rattle.std.proofs.Common.{rules, Option, ℕ, ◌≡◌, None, sym, ap, ◌∙◌, subst}
use Rattle.ft_syntax.specs.declared.expr.Expr.{Expr}
use Rattle.ft_syntax.specs.declared.spot.Spot.{Spot}
use Rattle.ft_syntax.specs.Plain.{plain_expression}
use Rattle.ft_syntax.specs.Syntax.{named}
use Rattle.ft_scope.specs.Scope.{index_misuse, misused_expression, first_of}
use Rattle.ft_scope.specs.Size.{same_slot, ExpressionFits}
use Rattle.ft_scope.specs.Held.{look}
use Rattle.ft_scope.proofs.MisusedNames.{both_fit, two_notes, index_fits, first_left, first_right}
use Rattle.ft_scope.proofs.renaming.+rename_expression.Goals as goal

pub returns-in-Ok-new-2-clause-fits : goal.returns-in-Ok-new-2-clause-fits
returns-in-Ok-new-2-clause-fits t c = λ k v h g.
    let table = look c.args.names.now in
    let misuse : Expr Spot → Option ℕ = λ e. misused_expression table (plain_expression named e) in
    let a : c.in_ok-a-in-Op.a ≡ c.in-Ok-new.a.value = search rules in
    let b : c.in_ok-b-in-Op.b ≡ c.in-Ok-new-2.b.value = search rules in
    let from_a : c.in-Op.a.value ≡ c.into_inner-in-Op.result = search rules in
    let from_b : c.in-Op.b.value ≡ c.into_inner-in-Op-2.result = search rules in
    let parts : first_of (misuse c.in-Op.a.value) (misuse c.in-Op.b.value) ≡ None = sym (ap misuse c.in-Op.is) ∙ g in
    both_fit k v (misuse c.in-Op.a.value) (misuse c.in-Op.b.value) (plain_expression same_slot c.in-Ok-new.a.value)
    (plain_expression same_slot c.in-Ok-new-2.b.value) parts
    (λ p. subst (λ e. ExpressionFits k v (plain_expression same_slot e)) a
    (c.in_ok-a-in-Op.ensures.fits k v h (subst (λ e. misuse e ≡ None) from_a p)))
    (λ q. subst (λ e. ExpressionFits k v (plain_expression same_slot e)) b
    (c.in_ok-b-in-Op.ensures.fits k v h (subst (λ e. misuse e ≡ None) from_b q)))

pub returns-in-Ok-new-2-clause-misuse : goal.returns-in-Ok-new-2-clause-misuse
returns-in-Ok-new-2-clause-misuse t c =
    let table = look c.args.names.now in
    let misuse : Expr Spot → Option ℕ = λ e. misused_expression table (plain_expression named e) in
    let from_a : c.in-Op.a.value ≡ c.into_inner-in-Op.result = search rules in
    let from_b : c.in-Op.b.value ≡ c.into_inner-in-Op-2.result = search rules in
    let old = c.args.misuse.now in
    let one = c.rename_expression-in-Op.new.misuse in
    let two = c.rename_expression-in-Op-2.new.misuse in
    two_notes old one two (misuse c.in-Op.a.value) (misuse c.in-Op.b.value)
    (subst (λ e. one ≡ first_of old (misuse e)) (sym from_a) c.in_ok-a-in-Op.ensures.misuse)
    (subst (λ e. two ≡ first_of one (misuse e)) (sym from_b) c.in_ok-b-in-Op.ensures.misuse)
    ∙ ap (first_of old) (sym (ap misuse c.in-Op.is))

pub returns-in-Ok-clause-misuse : goal.returns-in-Ok-clause-misuse
returns-in-Ok-clause-misuse t c =
    let table = look c.args.names.now in
    let misuse : Expr Spot → Option ℕ = λ e. misused_expression table (plain_expression named e) in
    let from : c.in-At.index.value ≡ c.into_inner.result = search rules in
    let old = c.args.misuse.now in
    let one = c.indexed_slot.new.misuse in
    let two = c.rename_expression.new.misuse in
    two_notes old one two (index_misuse c.in-At.name.at (table c.in-At.name.text.now)) (misuse c.in-At.index.value)
    c.in_ok-name-in-At.ensures.misuse
    (subst (λ e. two ≡ first_of one (misuse e)) (sym from) c.in_ok-index-in-At.ensures.misuse)
    ∙ ap (first_of old) (sym (ap misuse c.in-At.is))

pub returns-in-Ok-clause-fits : goal.returns-in-Ok-clause-fits
returns-in-Ok-clause-fits t c = λ k v h g.
    let table = look c.args.names.now in
    let misuse : Expr Spot → Option ℕ = λ e. misused_expression table (plain_expression named e) in
    let n = c.in-At.name in
    let one = index_misuse n.at (table n.text.now) in
    let other = misuse c.in-At.index.value in
    let from : c.in-At.index.value ≡ c.into_inner.result = search rules in
    let to : c.in_ok-index-in-At.index ≡ c.in-Ok.index.value = search rules in
    let parts : first_of one other ≡ None = sym (ap misuse c.in-At.is) ∙ g in (
      index_fits k v n.at (table n.text.now) c.in_ok-name-in-At.name c.in_ok-name-in-At.ensures.ok
          (c.in_ok-name-in-At.ensures.fits k v h) (first_left one other parts),
      subst (λ e. ExpressionFits k v (plain_expression same_slot e)) to
          (c.in_ok-index-in-At.ensures.fits k v h (subst (λ e. misuse e ≡ None) from (first_right one other parts))),
    )
