use Rattle.std.proofs.Common.{inl}
use Rattle.ft_embed.proofs.Tried.{tries_file}
use Rattle.ft_embed.proofs.trying.try_bytes.Goals as goal

pub returns-in-Ok-clause-tries : goal.returns-in-Ok-clause-tries
returns-in-Ok-clause-tries c = λ zero wild are.
    let r = c.try_program.result in
    tries_file c.args.bytes.now c.in-Ok.view c.args.trial.list.now wild c.args.trial.wild.now c.args.trial.steps
    r.totals c.try_program.new.out
    c.in-Ok.ensures.seen c.in-Ok.ensures.spelled (c.try_program.ensures.accepted (inl zero)) c.requires are
    (c.try_program.ensures.tries zero)
