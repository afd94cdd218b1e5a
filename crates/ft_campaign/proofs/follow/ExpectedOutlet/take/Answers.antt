use Rattle.std.proofs.Common.{◌∷◌, [], List, subst}
use Rattle.ft_isa.specs.declared.output.Output.{Output}
use Rattle.ft_campaign.specs.Follows.{Heeds}
use Rattle.ft_campaign.proofs.Following.{heeds_next}
use Rattle.ft_campaign.proofs.follow.ExpectedOutlet.take.Goals as goal

pub returns-clause-heard : goal.returns-clause-heard
returns-clause-heard c = λ first before h. (
  h.0,
  λ within.
      heeds_next c.is_next.result first.whole.now first.at c.args.self.now.at c.is_next.new.at before c.args.output
      (h.1 within)
      (subst (λ (whole : List Output). Heeds c.is_next.result whole c.args.self.now.at c.is_next.new.at
      (c.args.output ∷ [])) h.0 c.is_next.ensures.heeds),
)
