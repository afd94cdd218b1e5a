use Rattle.std.proofs.Common.{None, sym, ap, ◌∙◌}
use Rattle.ft_semantics.specs.Run.{state_after}
use Rattle.ft_semantics.specs.Step.{step}
use Rattle.ft_machine.specs.Answers.{told}
use Rattle.ft_runs.specs.Runs.{CleanRun}
use Rattle.ft_runs.proofs.CleanSteps.{clean_same, clean_next, told_same, clean_undetected}
use Rattle.ft_runs.proofs.clean.Clean.step.Goals as goal

pub invariant_of-self : goal.invariant_of-self
invariant_of-self g c =
    let r : CleanRun = record { object = g.P.Program.object c.self.inside.program.now; taken = c.self.inside.taken } in
    clean_next r c.self.inside.machine c.step-stepped.new.self c.new-wild.result c.self.invariant
    c.step-stepped.ensures.takes.state_is

pub returns-clause-answer : goal.returns-clause-answer
returns-clause-answer g c = λ w.
    let r : CleanRun = record { object = g.P.Program.object c.self.inside.program.now; taken = c.self.inside.taken } in
    let same = clean_same r c.self.inside.machine w c.new-wild.result w c.self.invariant in
    c.step-stepped.ensures.takes.answer_is ∙ told_same _ _ same
    ∙ ap (λ (x : CleanRun). told (step x.object (state_after x.object None w x.taken) w)) c.self.view_is

pub returns-clause-undetected : goal.returns-clause-undetected
returns-clause-undetected g c = λ e.
    let r : CleanRun = record { object = g.P.Program.object c.self.inside.program.now; taken = c.self.inside.taken } in
    clean_undetected r c.self.inside.machine c.new-wild.result c.self.invariant
    (sym c.step-stepped.ensures.takes.answer_is ∙ e)
