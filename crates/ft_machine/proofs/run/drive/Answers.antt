use Rattle.std.proofs.Common.{length, ap, sym, subst, ◌∙◌, rules}
use Rattle.ft_edge.specs.Lines.{Puts}
use Rattle.ft_types.specs.Objects.{init_of}
use Rattle.ft_semantics.specs.State.{State, is_cell}
use Rattle.ft_semantics.specs.Run.{outputs_after, status_after}
use Rattle.ft_machine.specs.Drives.{EndsAs, HasTaken, Stops, output_lines, put_end}
use Rattle.ft_machine.proofs.Driven.{drive_ends, drive_lines, drive_stops}
use Rattle.ft_machine.proofs.Spanned.{cell_bounds}
use Rattle.ft_machine.proofs.Tabulated.{cells_there}
use Rattle.ft_machine.proofs.run.drive.Goals as goal

pub run_under-gone-requires-clause-may : goal.run_under-gone-requires-clause-may
run_under-gone-requires-clause-may g c = λ output there.
    let o = g.P.Program.object c.args.program.now in
    let a = output.addr in (
      c.requires.spellable,
      cell_bounds (length o.cells) a (sym (ap (λ (s : State). is_cell s.cells a) c.requires.start
          ∙ cells_there (init_of o) (length o.cells) a) ∙ there),
    )

pub returns-clause-ends : goal.returns-clause-ends
returns-clause-ends g c =
    let o = g.P.Program.object c.args.program.now in
    let gone = c.run_under-gone in
    subst (λ e. EndsAs e (status_after o c.args.plan.strike c.args.plan.wild.now c.args.steps)) (sym c.run_end.ensures)
    (drive_ends o c.args.plan.strike c.args.plan.wild.now gone.new.machine c.args.steps gone.result.taken
    gone.result.pause gone.ensures.ran)

pub returns-clause-lines : goal.returns-clause-lines
returns-clause-lines g c =
    let o = g.P.Program.object c.args.program.now in
    let gone = c.run_under-gone in
    let old = g.K.Sink.log c.args.out.now in
    let new = g.K.Sink.log gone.new.outlet.out.now in
    let h : Puts (put_end c.run_end.result) (output_lines o
    (outputs_after o c.args.plan.strike c.args.plan.wild.now c.args.steps)) old new
    = subst (λ e. Puts (put_end e) (output_lines o
    (outputs_after o c.args.plan.strike c.args.plan.wild.now c.args.steps)) old new) (sym c.run_end.ensures)
    (drive_lines o c.args.plan.strike c.args.plan.wild.now gone.new.machine c.args.steps gone.result.taken old new
    gone.result.pause gone.ensures.ran gone.ensures.heard.2) in
    search rules

pub returns-clause-stops : goal.returns-clause-stops
returns-clause-stops g c =
    let o = g.P.Program.object c.args.program.now in
    let gone = c.run_under-gone in
    let old = g.K.Sink.log c.args.out.now in
    let new = g.K.Sink.log gone.new.outlet.out.now in
    let h : Stops c.run_end.result (λ k. HasTaken o c.args.plan.strike c.args.plan.wild.now k gone.new.machine old new)
    (outputs_after o c.args.plan.strike c.args.plan.wild.now) c.args.steps
    = subst (λ e. Stops e (λ k. HasTaken o c.args.plan.strike c.args.plan.wild.now k gone.new.machine old new)
    (outputs_after o c.args.plan.strike c.args.plan.wild.now) c.args.steps) (sym c.run_end.ensures)
    (drive_stops o c.args.plan.strike c.args.plan.wild.now gone.new.machine c.args.steps gone.result.taken old new
    gone.result.pause gone.ensures.ran gone.ensures.heard.2) in
    search rules
