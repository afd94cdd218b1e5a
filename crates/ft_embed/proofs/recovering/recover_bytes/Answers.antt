use Rattle.ft_embed.proofs.Recovered.{recovers_file}
use Rattle.ft_embed.proofs.recovering.recover_bytes.Goals as goal

pub returns-in-Ok-clause-recovers : goal.returns-in-Ok-clause-recovers
returns-in-Ok-clause-recovers c = λ a _ b fault wild is are.
    let r = c.recover_program.result in
    recovers_file c.args.bytes.now c.in-Ok.view fault wild c.args.plan.strike c.args.plan.wild.now c.args.steps r.status
    r.ran.steps r.ran.count r.ran.restarts r.ran.again c.recover_program.new.out
    c.in-Ok.ensures.seen c.in-Ok.ensures.spelled (c.recover_program.ensures.accepted a b) is are
    (c.recover_program.ensures.recovers a b)
