use Rattle.ft_tool.proofs.survey.survey_faults.Given as goal

abbrev pub ghosts-survey_counted : goal.ghosts-survey_counted
ghosts-survey_counted g a = record { name = a.blank.name; parts = a.blank.parts }
