use Rattle.std.proofs.Common.{sym, subst}
use Rattle.ft_campaign.specs.Snapshots.{IsCost}
use Rattle.ft_tolerance.specs.Soundness.{IsNeverDetected}
use Rattle.ft_tolerance.proofs.Whole.{never_detected}
use Rattle.ft_campaign.proofs.Judged.{uncorrupted}
use Rattle.ft_campaign.proofs.campaigns.campaign.Goals as goal

pub returns-clause-uncorrupted : goal.returns-clause-uncorrupted
returns-clause-uncorrupted g c = uncorrupted c.survey.result (g.P.Program.object c.program.result.now) _ _ _ _ _
    c.program.ensures.checked.spellable c.program.ensures.checked.accepted c.survey.ensures.ends

pub returns-clause-sound : goal.returns-clause-sound
returns-clause-sound g c =
    subst (λ p. IsNeverDetected (g.P.Program.object p) c.args.wild.now) c.program.ensures.same
    (never_detected (g.P.Program.object c.program.result.now) c.args.wild.now c.program.ensures.checked.spellable
    c.program.ensures.checked.accepted)

pub returns-clause-cost : goal.returns-clause-cost
returns-clause-cost g c = λ f h. c.survey.ensures.cost f (λ x.
    subst (λ p. IsCost (g.P.Program.object p) c.args.wild.now c.args.n x (f x)) (sym c.program.ensures.same) (h x))
