use Rattle.std.proofs.Common.{sym, subst, ◌∙◌}
use Rattle.ft_embed.specs.declared.answer.RunAnswer.{RunAnswer}
use Rattle.ft_embed.specs.Outputs.{Ends, RunsInto}
use Rattle.ft_embed.proofs.Ends.{unrefused_accepted, runs_into}
use Rattle.ft_embed.proofs.running.run_program.Goals as goal

pub returns-clause-runs : goal.returns-clause-runs
returns-clause-runs g c = λ a b.
    let o = g.P.Program.object c.args.program.now in
    let strike = c.args.plan.strike in
    let w = c.args.plan.wild.now in
    let status = c.end_of-status.result in
    subst (λ (r : RunAnswer). RunsInto o strike w c.args.steps r.status r.ran.steps r.ran.count
    c.run_machine-filled.new.out) (sym c.has_run.ensures)
    (runs_into o strike w c.args.steps status c.run_machine-filled.result.taken c.run_machine-filled.result.count
    c.run_machine-filled.new.machine.status c.run_machine-filled.new.out c.requires
    (unrefused_accepted o c.in-Ok.ensures.judged) c.run_machine-filled.ensures.takes
    (λ count room le few all. subst (λ s. Ends status c.args.steps c.run_machine-filled.result.taken count room s)
    c.status.ensures
    (c.end_of-status.ensures.ends count room le few (λ running. all (sym c.status.ensures ∙ running)))))
