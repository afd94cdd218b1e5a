use Rattle.std.proofs.Common.{◌≡◌, [], length, None, ap, sym, subst, ◌∙◌}
use Rattle.ft_types.specs.Objects.{init_of}
use Rattle.ft_semantics.specs.State.{State, is_cell}
use Rattle.ft_semantics.specs.Run.{Ran, run-zero, state_after, outputs_after}
use Rattle.ft_machine.specs.Drives.{IsOfCell}
use Rattle.ft_machine.specs.Goes.{goes_on}
use Rattle.ft_machine.proofs.Driven.{run_whole}
use Rattle.ft_machine.proofs.Spanned.{cell_bounds}
use Rattle.ft_machine.proofs.Tabulated.{cells_there}
use Rattle.ft_runs.specs.Runs.{CleanRun}
use Rattle.ft_runs.proofs.runs.run_clean.Goals as goal

pub run_under-requires-clause-start : goal.run_under-requires-clause-start
run_under-requires-clause-start g c =
    let o = g.P.Program.object c.start.inside.program.now in
    let none = ap (λ (x : CleanRun). x.taken) c.start.view_is ∙ c.requires.taken in
    c.start.invariant.state [] ∙ ap (λ n. state_after o None [] n) none ∙ ap (λ (x : Ran). x.state) (run-zero o None [])

pub run_under-requires-clause-may : goal.run_under-requires-clause-may
run_under-requires-clause-may g c = λ output there.
    let o = g.P.Program.object c.start.inside.program.now in
    let a = output.addr in
    let none = ap (λ (x : CleanRun). x.taken) c.start.view_is ∙ c.requires.taken in
    let begun = c.start.invariant.state [] ∙ ap (λ n. state_after o None [] n) none
    ∙ ap (λ (x : Ran). x.state) (run-zero o None []) in
    c.requires.may output
    (subst (λ (x : CleanRun). IsOfCell x.object output) c.start.view_is
    (cell_bounds (length o.cells) a (sym (ap (λ (s : State). is_cell s.cells a) begun
    ∙ cells_there (init_of o) (length o.cells) a) ∙ there)))

pub returns-clause-heard : goal.returns-clause-heard
returns-clause-heard g c =
    let gone = c.run_under in
    subst (λ (x : CleanRun). g.T.Outlet.heard c.args.outlet.now (outputs_after x.object None [] gone.result.taken)
    (goes_on gone.result.pause) gone.new.outlet) c.start.view_is gone.ensures.heard

pub returns-clause-whole : goal.returns-clause-whole
returns-clause-whole g c = λ goes.
    let o = g.P.Program.object c.start.inside.program.now in
    let gone = c.run_under in
    subst (λ (x : CleanRun). outputs_after x.object None [] c.args.steps
    ≡ outputs_after x.object None [] gone.result.taken) c.start.view_is
    (ap (λ (x : Ran). x.outputs) (run_whole o None [] gone.new.machine c.args.steps gone.result.taken gone.result.pause
    goes gone.ensures.ran))
