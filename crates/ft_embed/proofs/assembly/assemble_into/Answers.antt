use Rattle.ft_embed.proofs.assembly.assemble_into.Goals as goal

pub returns-in-Err-clause-refused : goal.returns-in-Err-clause-refused
returns-in-Err-clause-refused c = c.refuse_text.ensures.refused c.args.text.now c.in-Err.ensures.refused
