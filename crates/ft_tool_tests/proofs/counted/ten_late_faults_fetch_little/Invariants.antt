use Rattle.ft_tool_tests.proofs.counted.ten_late_faults_fetch_little.Given as goal

abbrev pub ghosts-check_and_repeat : goal.ghosts-check_and_repeat
ghosts-check_and_repeat g a = record { name = a.blank.name; parts = a.blank.parts }
