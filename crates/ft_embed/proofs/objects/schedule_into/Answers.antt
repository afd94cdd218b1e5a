use Rattle.ft_embed.proofs.Spelled.{given_schedule}
use Rattle.ft_embed.proofs.objects.schedule_into.Goals as goal

pub returns-in-Ok-clause-given : goal.returns-in-Ok-clause-given
returns-in-Ok-clause-given c = λ a _ b.
    let r = c.schedule_program.result in
    given_schedule c.args.bytes.now c.in-Ok.view c.in-Ok.ensures.seen c.in-Ok.ensures.spelled c.args.out.now
    c.schedule_program.new.out r.made r.status
    (c.schedule_program.ensures.accepted a b) (c.schedule_program.ensures.given a b)
