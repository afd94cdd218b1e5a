use Rattle.ft_machine_tests.proofs.checked.decode_and_schedule.Given as goal

abbrev pub ghosts-schedule_counted : goal.ghosts-schedule_counted
ghosts-schedule_counted a = record { name = a.blank.name; parts = a.blank.parts }
