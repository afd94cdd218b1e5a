use Rattle.ft_embed.proofs.Judged.{source_refused}
use Rattle.ft_embed.proofs.compiling.compile_into.Goals as goal

pub returns-in-Err-clause-refused : goal.returns-in-Err-clause-refused
returns-in-Err-clause-refused c = λ six.
    source_refused c.args.text.now c.in-Err.error c.refuse_source.result.why c.in-Err.ensures.err
    (c.refuse_source.ensures.named six) (c.refuse_source.ensures.told six)
