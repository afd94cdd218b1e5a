use Rattle.ft_campaign.proofs.Judged.{never_corrupt}
use Rattle.ft_campaign.proofs.laws.faults_of_accepted_objects_are_not_corrupt.Goals as goal

pub returns : goal.returns
returns c = never_corrupt
