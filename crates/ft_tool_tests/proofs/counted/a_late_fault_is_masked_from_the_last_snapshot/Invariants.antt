use Rattle.ft_tool_tests.proofs.counted.a_late_fault_is_masked_from_the_last_snapshot.Given as goal

abbrev pub ghosts-check_and_judge : goal.ghosts-check_and_judge
ghosts-check_and_judge g a = record { name = a.blank.name; parts = a.blank.parts }
