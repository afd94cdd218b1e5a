use Rattle.std.proofs.Common.{Some, cond, sym, ap, ◌∙◌, is_some, refl}
use Rattle.std.proofs.lemmas.Map.Text.{is_eq-slice_cmp}
use Rattle.ft_scope.specs.Held.{look}
use Rattle.ft_scope.proofs.names.Names.name.Goals as goal

pub returns-in-Ok-None-clause-fresh : goal.returns-in-Ok-None-clause-fresh
unfolding look
returns-in-Ok-None-clause-fresh c = sym c.in-Ok-None.ensures.old ∙ c.in-Ok-None.field-0-is

pub returns-in-Ok-None-clause-noted : goal.returns-in-Ok-None-clause-noted
unfolding look
returns-in-Ok-None-clause-noted c = λ text.
    c.in-Ok-None.ensures.updates.0 (record c.args.name.text { now = text })
    ∙ ap (λ b. cond b (Some c.args.slot) (look c.args.self.now text)) (is_eq-slice_cmp c.args.name.text.now text)

pub returns-in-Ok-Some-clause-err : goal.returns-in-Ok-Some-clause-err
unfolding look
returns-in-Ok-Some-clause-err c = (refl, ap is_some (sym c.in-Ok-Some.ensures.old ∙ c.in-Ok-Some.field-0-is))
