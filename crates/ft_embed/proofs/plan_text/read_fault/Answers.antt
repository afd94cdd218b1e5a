use Rattle.ft_embed.proofs.PlanTexts.{some_fault}
use Rattle.ft_embed.proofs.plan_text.read_fault.Goals as goal

pub returns-in-Ok-clause-ok : goal.returns-in-Ok-clause-ok
returns-in-Ok-clause-ok c = some_fault c.args.text.now c.in-Ok.strike c.in-Ok.ensures.ok
