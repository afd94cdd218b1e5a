use Rattle.ft_classes.proofs.CounterVerdicts.{counter_told, kept_masked}
use Rattle.ft_classes.proofs.laws.counters_need_no_run.Goals as goal

pub returns-clause-other : goal.returns-clause-other
returns-clause-other c o w n k x v cx lt go clean small a other = counter_told o w n k x v cx lt go clean a small other

pub returns-clause-same : goal.returns-clause-same
returns-clause-same c = kept_masked
