use Rattle.std.proofs.Common.{refl}
use Rattle.ft_demo.proofs.Outputs.{tally_more}
use Rattle.ft_demo.proofs.tally.TallyOutlet.take.Goals as goal

pub returns-clause-heard : goal.returns-clause-heard
returns-clause-heard c = λ first before h. (refl, tally_more first c.args.self.now _ before c.args.output h.1 refl refl)
