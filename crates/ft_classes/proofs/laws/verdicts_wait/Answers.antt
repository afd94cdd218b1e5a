use Rattle.ft_classes.proofs.Classes.{verdict_waits, verdict_was, dead_masked}
use Rattle.ft_classes.proofs.laws.verdicts_wait.Goals as goal

pub returns-clause-lasting : goal.returns-clause-lasting
returns-clause-lasting c o w n k x v l y h lt u =
    (verdict_waits o w n k x v l y h lt u, verdict_was o w n k x v l y h lt u)

pub returns-clause-dead : goal.returns-clause-dead
returns-clause-dead c = dead_masked
