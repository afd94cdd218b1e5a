use Rattle.ft_tool.proofs.campaign.campaign_faults.Given as goal

abbrev pub ghosts-campaign_counted : goal.ghosts-campaign_counted
ghosts-campaign_counted g a = record { name = a.blank.name; parts = a.blank.parts }
