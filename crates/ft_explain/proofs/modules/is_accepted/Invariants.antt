use Rattle.ft_explain.proofs.modules.is_accepted.Given as goal

abbrev pub ghosts-is_accepted_over : goal.ghosts-is_accepted_over
ghosts-is_accepted_over g a = record { name = a.blank.name; parts = a.blank.parts }
