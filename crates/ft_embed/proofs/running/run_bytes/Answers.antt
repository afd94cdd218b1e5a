use Rattle.ft_embed.proofs.Ends.{runs_file}
use Rattle.ft_embed.proofs.running.run_bytes.Goals as goal

pub returns-in-Ok-clause-runs : goal.returns-in-Ok-clause-runs
returns-in-Ok-clause-runs c = λ a _ b fault wild is are.
    let r = c.run_program.result in
    runs_file c.args.bytes.now c.in-Ok.view fault wild c.args.plan.strike c.args.plan.wild.now c.args.steps r.status
    r.ran.steps r.ran.count c.run_program.new.out
    c.in-Ok.ensures.seen c.in-Ok.ensures.spelled (c.run_program.ensures.accepted a b) is are
    (c.run_program.ensures.runs a b)
