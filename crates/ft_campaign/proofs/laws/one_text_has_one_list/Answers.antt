use Rattle.ft_campaign.proofs.Faults.{one_list, one_error, no_error}
use Rattle.ft_campaign.proofs.laws.one_text_has_one_list.Goals as goal

pub returns-clause-list : goal.returns-clause-list
returns-clause-list c = one_list

pub returns-clause-refusal : goal.returns-clause-refusal
returns-clause-refusal c = one_error

pub returns-clause-either : goal.returns-clause-either
returns-clause-either c = no_error
