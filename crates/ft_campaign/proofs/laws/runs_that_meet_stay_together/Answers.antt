use Rattle.ft_campaign.proofs.Meetings.{has_met}
use Rattle.ft_campaign.proofs.laws.runs_that_meet_stay_together.Goals as goal

pub returns : goal.returns
returns c = has_met
