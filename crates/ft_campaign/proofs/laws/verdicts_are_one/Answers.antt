use Rattle.ft_campaign.proofs.Judged.{one_verdict}
use Rattle.ft_campaign.proofs.laws.verdicts_are_one.Goals as goal

pub returns : goal.returns
returns c = one_verdict
