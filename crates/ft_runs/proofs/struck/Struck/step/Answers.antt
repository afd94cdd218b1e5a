use Rattle.std.proofs.Common.{◌≡◌, ◌⊎◌, None, sym, subst}
use Rattle.ft_semantics.specs.Run.{state_after}
use Rattle.ft_semantics.specs.Step.{step}
use Rattle.ft_machine.specs.declared.stepped.Stepped.{Stepped}
use Rattle.ft_machine.specs.declared.stepped.Stepped.TheVariants.{Detected}
use Rattle.ft_machine.specs.Answers.{told}
use Rattle.ft_runs.specs.Runs.{StruckRun}
use Rattle.ft_runs.proofs.StruckSteps.{struck_next, struck_told}
use Rattle.ft_runs.proofs.struck.Struck.step.Goals as goal

pub invariant_of-self : goal.invariant_of-self
invariant_of-self g c =
    let r : StruckRun = record {
      object = g.P.Program.object c.self.inside.program.now;
      strike = c.self.inside.strike;
      wild = c.self.inside.wild.now;
      taken = c.self.inside.taken;
    } in
    struck_next r c.self.inside.machine c.step-stepped.new.self c.self.inside.left c.step-stepped.new.wild
    c.self.invariant c.step-stepped.ensures.takes.state_is c.step-stepped.ensures.takes.wild_is

pub returns-clause-masked : goal.returns-clause-masked
returns-clause-masked g c =
    let r : StruckRun = record {
      object = g.P.Program.object c.self.inside.program.now;
      strike = c.self.inside.strike;
      wild = c.self.inside.wild.now;
      taken = c.self.inside.taken;
    } in
    subst (λ (x : StruckRun). (c.step-stepped.result
    ≡ told (step x.object (state_after x.object None x.wild x.taken) x.wild)) ⊎ (c.step-stepped.result ≡ Detected))
    c.self.view_is
    (subst (λ (a : Stepped). (a ≡ told (step r.object (state_after r.object None r.wild r.taken) r.wild)) ⊎ (a
    ≡ Detected)) (sym c.step-stepped.ensures.takes.answer_is)
    (struck_told r c.self.inside.machine c.self.inside.left c.self.invariant))
