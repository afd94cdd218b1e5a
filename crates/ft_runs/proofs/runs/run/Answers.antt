use Rattle.std.proofs.Common.{◌≢◌, [], Option, None, ap, ◌∙◌, subst}
use Rattle.ft_edge.specs.Lines.{Puts}
use Rattle.ft_typing.specs.Accepted.{IsAccepted}
use Rattle.ft_types.specs.Spellable.{IsSpellable}
use Rattle.ft_semantics.specs.Run.{Ran, run-zero, state_after, outputs_after, status_after}
use Rattle.ft_semantics.specs.declared.status.Status.{Status}
use Rattle.ft_semantics.specs.declared.status.Status.TheVariants as status
use Rattle.ft_isa.specs.declared.plan.Strike.{Strike}
use Rattle.ft_machine.specs.Drives.{EndsAs, output_lines, put_end}
use Rattle.ft_machine.specs.declared.run.RunEnd.{RunEnd}
use Rattle.ft_machine.specs.declared.run.RunEnd.TheVariants.{Done, Detected, OutOfSteps, WriteFault}
use Rattle.ft_runs.specs.Runs.{CleanRun}
use Rattle.ft_tolerance.proofs.Whole.{never_detected}
use Rattle.ft_tolerance.proofs.Masking.{tolerant}
use Rattle.ft_runs.proofs.runs.run.Goals as goal

pub drive-requires-clause-start : goal.drive-requires-clause-start
drive-requires-clause-start g c =
    let o = g.P.Program.object c.start.inside.program.now in
    let none = ap (λ (x : CleanRun). x.taken) c.start.view_is ∙ c.requires in
    c.start.invariant.state [] ∙ ap (λ n. state_after o None [] n) none ∙ ap (λ (x : Ran). x.state) (run-zero o None [])

pub returns-clause-agrees : goal.returns-clause-agrees
returns-clause-agrees g c =
    tolerant c.args.start.object c.args.plan.strike c.args.plan.wild.now c.args.steps
    (subst (λ (x : CleanRun). IsSpellable x.object) c.start.view_is c.start.invariant.spellable)
    (subst (λ (x : CleanRun). IsAccepted x.object) c.start.view_is c.start.invariant.accepted)

pub returns-clause-sound : goal.returns-clause-sound
returns-clause-sound g c =
    never_detected c.args.start.object c.args.plan.wild.now
    (subst (λ (x : CleanRun). IsSpellable x.object) c.start.view_is c.start.invariant.spellable)
    (subst (λ (x : CleanRun). IsAccepted x.object) c.start.view_is c.start.invariant.accepted)

-- a run whose status is not detected does not end as detected
undetected_end : (end : RunEnd) (s : Status) → EndsAs end s → s ≢ status.Detected → end ≢ Detected
undetected_end Done s ends never e = cc
undetected_end Detected s ends never e = never ends
undetected_end OutOfSteps s ends never e = cc
undetected_end WriteFault s ends never e = cc

pub returns-clause-undetected : goal.returns-clause-undetected
returns-clause-undetected g c = λ none.
    let o = g.P.Program.object c.start.inside.program.now in
    undetected_end c.drive.result (status_after o None c.args.plan.wild.now c.args.steps)
    (subst (λ (x : Option Strike). EndsAs c.drive.result (status_after o x c.args.plan.wild.now c.args.steps)) none
    c.drive.ensures.ends)
    (never_detected o c.args.plan.wild.now c.start.invariant.spellable c.start.invariant.accepted c.args.steps)

pub returns-clause-lines : goal.returns-clause-lines
returns-clause-lines g c =
    subst (λ (x : CleanRun). Puts (put_end c.drive.result)
    (output_lines x.object (outputs_after x.object c.args.plan.strike c.args.plan.wild.now c.args.steps))
    (g.K.Sink.log c.args.out.now) (g.K.Sink.log c.drive.new.out))
    c.start.view_is c.drive.ensures.lines
