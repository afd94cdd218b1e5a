use Rattle.std.proofs.Common.{◌≡◌, Option, Some, IfSome, IfErr, subst, sym, ap, ◌∙◌}
use Rattle.std.proofs.lemmas.Result.{IfErr-weaker}
use Rattle.ft_syntax.specs.Machine.{Waiting, empty, push}
use Rattle.ft_syntax.specs.View.{expression, waiting, kind_of, Refuses}
use Rattle.ft_syntax.proofs.parser.Parser.+expression.Goals as goal

-- if an option is `Some a`, what holds of its value holds of `a`
at_some : {A : Type 0} (P : A → Type 0) {o : Option A} {a : A} → o ≡ Some a → IfSome o P → P a
at_some P is h = subst (λ o. IfSome o P) is h

pub expr-returns-clause-err : goal.expr-returns-clause-err
expr-returns-clause-err t c =
    IfErr-weaker c.operations.result _ _
    (λ e h x. subst (Refuses e) (sym (c.in_ok-first.ensures.ok empty x
    ∙ at_some _ c.in-Some.is c.in_ok-operator.ensures.taken empty (waiting c.push.new.self)
    (expression c.in_ok-first.first) x (sym (ap (λ (p : Waiting).
    push (kind_of c.in-Some.operator) p (expression c.in_ok-first.first)) c.new-pending.ensures)
    ∙ c.in_ok-push.ensures.ok))) (h x))
    c.operations.ensures.err
