use Rattle.ft_checker.proofs.judge.check_uncounted.Given as goal

abbrev pub ghosts-check_from_0 : goal.ghosts-check_from_0
ghosts-check_from_0 g a = record { name = a.blank.name; parts = a.blank.parts }
