use Rattle.ft_modules.proofs.Alone.{totals_alone, not_alone}
use Rattle.ft_modules.proofs.module_laws.modules_are_refused_for_totals_alone.Goals as goal

pub returns : goal.returns
returns c = record { behind = totals_alone; alone = not_alone }
