use Rattle.ft_embed.proofs.LinkTurns.{unaccepted}
use Rattle.ft_embed.proofs.unlinked.refuse_module.Goals as goal

pub returns-clause-told : goal.returns-clause-told
returns-clause-told c = λ x h other. unaccepted x c.args.module c.refuse-verdict.result.status
    c.refuse-verdict.result.why c.refuse-verdict.ensures.status (c.refuse-verdict.ensures.told x h) other
