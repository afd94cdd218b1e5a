use Rattle.ft_embed.proofs.Spelled.{given_name, no_cell}
use Rattle.ft_embed.proofs.objects.name_into.Goals as goal

pub returns-in-Ok-clause-given : goal.returns-in-Ok-clause-given
returns-in-Ok-clause-given c = λ _ b.
    let r = c.cell_name_into.result in
    given_name c.args.bytes.now c.in-Ok.view c.in-Ok.ensures.seen c.in-Ok.ensures.spelled c.args.out.now
    c.cell_name_into.new.out r.made r.status c.args.cell (c.cell_name_into.ensures.given b)

pub returns-in-Ok-clause-none : goal.returns-in-Ok-clause-none
returns-in-Ok-clause-none c = λ e. no_cell c.args.bytes.now c.in-Ok.view c.in-Ok.ensures.seen c.in-Ok.ensures.spelled
    c.args.cell (c.cell_name_into.ensures.none e)
