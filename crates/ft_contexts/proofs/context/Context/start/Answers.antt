use Rattle.ft_contexts.proofs.context.Context.start.Goals as goal

pub start_over-requires-clause-own : goal.start_over-requires-clause-own
start_over-requires-clause-own g c = c.in_ok-own.ensures.own (g.P.Program.object c.args.program.now)
