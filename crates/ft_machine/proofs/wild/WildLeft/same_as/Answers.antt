use Rattle.std.proofs.Common.{sym, ◌∙◌}
use Rattle.ft_machine.proofs.SameAnswers.{answers_decide}
use Rattle.ft_machine.proofs.wild.WildLeft.same_as.Goals as goal

pub returns : goal.returns
returns c =
    let h = answers_decide c.self.inside.rest.now c.other.inside.rest.now c.eq.result c.eq.ensures in
    (λ t. sym c.self.view_is ∙ h.0 t ∙ c.other.view_is, λ e. h.1 (c.self.view_is ∙ e ∙ sym c.other.view_is))
