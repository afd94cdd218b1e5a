use Rattle.std.proofs.Common.{sym, subst, ◌∙◌}
use Rattle.ft_embed.specs.declared.answer.RunAnswer.{RunAnswer}
use Rattle.ft_embed.specs.Outputs.{Ends}
use Rattle.ft_embed.specs.Recoveries.{RecoversInto}
use Rattle.ft_embed.proofs.Recovered.{recovers_first, recovers_second}
use Rattle.ft_embed.proofs.recovering.recover_machines.Goals as goal

pub returns-then-not-is_detected-clause-recovers : goal.returns-then-not-is_detected-clause-recovers
returns-then-not-is_detected-clause-recovers g c =
    let o = g.P.Program.object c.args.program.now in
    let strike = c.args.plan.strike in
    let w = c.args.plan.wild.now in
    let steps = c.args.steps in
    let taken = c.run_machine-filled.result.taken in
    let status = c.end_of-status.result in
    let stands = c.status-before.ensures in
    subst (λ (r : RunAnswer). RecoversInto o strike w steps r.status r.ran.steps r.ran.count r.ran.restarts r.ran.again
    c.run_machine-filled.new.out) (sym c.has_run.ensures)
    (recovers_first o strike w steps c.requires.spellable c.requires.accepted status taken
    c.run_machine-filled.result.count c.run_machine-filled.new.machine.status c.run_machine-filled.new.out
    c.run_machine-filled.ensures.takes (λ is. c.is_detected.ensures.no c.if-not-is_detected.true (stands ∙ is))
    (λ n room le few all. subst (λ s. Ends status steps taken n room s) stands
    (c.end_of-status.ensures.ends n room le few (λ running. all (sym stands ∙ running)))))

pub returns-clause-recovers : goal.returns-clause-recovers
returns-clause-recovers g c =
    let o = g.P.Program.object c.args.program.now in
    let strike = c.args.plan.strike in
    let w = c.args.plan.wild.now in
    let steps = c.args.steps in
    let taken = c.run_machine-whole.result.taken in
    let status = c.end_of-status-2.result in
    let stands = c.status-after.ensures in
    subst (λ (r : RunAnswer). RecoversInto o strike w steps r.status r.ran.steps r.ran.count r.ran.restarts r.ran.again
    c.run_machine-whole.new.out) (sym c.has_run_again.ensures)
    (recovers_second o strike w steps c.requires.spellable c.requires.accepted status taken
    c.run_machine-whole.result.count c.run_machine-whole.new.machine.status c.run_machine-whole.new.out
    c.run_machine-filled.result.taken c.run_machine-filled.result.count c.run_machine-filled.new.machine.status
    c.run_machine-filled.new.out
    c.run_machine-filled.ensures.takes (sym c.status-before.ensures
    ∙ c.is_detected.ensures.yes c.if-not-is_detected.false) c.run_machine-whole.ensures.same
    c.run_machine-whole.ensures.takes
    (λ n room le few all. subst (λ s. Ends status steps taken n room s) stands
    (c.end_of-status-2.ensures.ends n room le few (λ running. all (sym stands ∙ running)))))
