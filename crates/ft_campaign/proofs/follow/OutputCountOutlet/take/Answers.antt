use Rattle.std.proofs.Common.{refl}
use Rattle.ft_machine.proofs.Counting.{count_next}
use Rattle.ft_campaign.proofs.follow.OutputCountOutlet.take.Goals as goal

pub returns-clause-heard : goal.returns-clause-heard
returns-clause-heard c = λ first before h. (
  refl,
  count_next first.count c.args.self.now.count _ before c.args.output
      h.1 refl,
)
