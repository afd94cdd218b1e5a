use Rattle.ft_embed.proofs.Judged.{accepted_file}
use Rattle.ft_embed.proofs.checking.judge.Goals as goal

pub returns-in-Ok-clause-accepted : goal.returns-in-Ok-clause-accepted
returns-in-Ok-clause-accepted c =
    accepted_file c.args.bytes.now c.in-Ok.view c.judge_program.result.status c.judge_program.result.why
    c.in-Ok.ensures.seen c.in-Ok.ensures.spelled c.judge_program.ensures.told
