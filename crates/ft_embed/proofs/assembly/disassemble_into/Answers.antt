use Rattle.ft_embed.proofs.Spelled.{given_text}
use Rattle.ft_embed.proofs.assembly.disassemble_into.Goals as goal

pub returns-in-Ok-clause-given : goal.returns-in-Ok-clause-given
returns-in-Ok-clause-given c = λ a _.
    let r = c.text_into.result in
    given_text c.args.bytes.now c.in-Ok.view c.in-Ok.ensures.seen c.in-Ok.ensures.spelled c.args.out.now
    c.text_into.new.out r.made r.status (c.text_into.ensures.given a)
