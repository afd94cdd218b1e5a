use Rattle.ft_flow.specs.DeclaredAt.{declared_at}
use Rattle.ft_flow.proofs.Lawfulness.{cells_lawful}
use Rattle.ft_flow.proofs.texts.read_blocks.Goals as goal

pub returns-in-Ok-read_steps-clause-cells : goal.returns-in-Ok-read_steps-clause-cells
returns-in-Ok-read_steps-clause-cells c = cells_lawful (declared_at c.args.read.declared) c.requires.lawful
