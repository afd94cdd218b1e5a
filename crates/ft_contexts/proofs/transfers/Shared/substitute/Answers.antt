use Rattle.std.proofs.Common.{sym, ◌∙◌}
use Rattle.ft_contexts.proofs.SameForms.{forms_decide}
use Rattle.ft_contexts.proofs.transfers.Shared.substitute.Goals as goal

pub returns-then-eq-2-clause-integers : goal.returns-then-eq-2-clause-integers
returns-then-eq-2-clause-integers c =
    let xs = c.as_slice.result.now in
    let ys = c.as_slice-then-eq.result.now in
    sym c.as_slice.ensures ∙ (forms_decide xs ys c.eq-then-eq.result c.eq-then-eq.ensures).0 c.if-eq-2.true
    ∙ c.as_slice-then-eq.ensures
