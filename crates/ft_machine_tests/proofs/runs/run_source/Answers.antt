use Rattle.ft_machine_tests.proofs.runs.run_source.Goals as goal

pub run_schedule-requires-clause-accepted : goal.run_schedule-requires-clause-accepted
run_schedule-requires-clause-accepted c = c.in-Ok.ensures.ok.2.accepted
