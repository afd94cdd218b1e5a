use Rattle.ft_contexts.proofs.context.Context.queue_at.Goals as goal

pub returns-clause-held : goal.returns-clause-held
returns-clause-held c = λ fs h. h.queue c.args.i c.at.result c.at.ensures
