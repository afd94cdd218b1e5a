use Rattle.std.proofs.Common.{◌≡◌, length, ap, sym, ◌∙◌, rules}
use Rattle.std.specs.Prelude.{drop}
use Rattle.ft_edge.specs.Lines.{BreaksOff, with_lines}
use Rattle.ft_types.specs.Objects.{init_of}
use Rattle.ft_semantics.specs.State.{State, is_cell}
use Rattle.ft_semantics.specs.Run.{outputs_after}
use Rattle.ft_machine.specs.declared.stepped.Pause.TheVariants.{Refused}
use Rattle.ft_machine.specs.Drives.{output_lines}
use Rattle.ft_machine.proofs.Spanned.{cell_bounds}
use Rattle.ft_machine.proofs.Tabulated.{cells_there}
use Rattle.ft_recover.proofs.Restarts.{ran_past, puts_past, breaks_past}
use Rattle.ft_recover.proofs.runs.run_past.Goals as goal

pub run_under-gone-requires-clause-may : goal.run_under-gone-requires-clause-may
run_under-gone-requires-clause-may g c = λ output there.
    let o = g.P.Program.object c.args.program.now in
    let a = output.addr in (
      c.requires.spellable,
      cell_bounds (length o.cells) a (sym (ap (λ (s : State). is_cell s.cells a) c.requires.start
          ∙ cells_there (init_of o) (length o.cells) a) ∙ there),
    )

pub returns-then-broke_off-clause-puts : goal.returns-then-broke_off-clause-puts
returns-then-broke_off-clause-puts g c =
    let o = g.P.Program.object c.args.program.now in
    let gone = c.run_under-gone in
    let old = g.K.Sink.log c.args.out.now in
    let new = g.K.Sink.log gone.new.outlet.out.now in
    let refused : gone.result.pause ≡ Refused = search rules in
    let h : BreaksOff (output_lines o (drop c.args.passed
    (outputs_after o c.args.plan.strike c.args.plan.wild.now c.args.steps))) old new
    = breaks_past o c.args.plan.strike c.args.plan.wild.now gone.new.machine c.args.steps gone.result.taken
    c.args.passed gone.new.outlet.passed gone.new.outlet.count old new c.ranges.steps.fits
    gone.result.pause refused gone.ensures.ran.few gone.ensures.heard.2 in
    search rules

pub returns-clause-runs : goal.returns-clause-runs
returns-clause-runs g c =
    let o = g.P.Program.object c.args.program.now in
    let gone = c.run_under-gone in
    let went : ¬ (gone.result.pause ≡ Refused) = search rules in
    ran_past o c.args.plan.strike c.args.plan.wild.now gone.new.machine c.args.steps gone.result.taken c.args.passed
    gone.new.outlet.passed gone.new.outlet.count
    (g.K.Sink.log c.args.out.now) (g.K.Sink.log gone.new.outlet.out.now) c.ranges.steps.fits gone.result.pause went
    gone.ensures.ran gone.ensures.heard.2

pub returns-clause-puts : goal.returns-clause-puts
returns-clause-puts g c =
    let o = g.P.Program.object c.args.program.now in
    let gone = c.run_under-gone in
    let old = g.K.Sink.log c.args.out.now in
    let new = g.K.Sink.log gone.new.outlet.out.now in
    let went : ¬ (gone.result.pause ≡ Refused) = search rules in
    let h : new ≡ with_lines (output_lines o (drop c.args.passed
    (outputs_after o c.args.plan.strike c.args.plan.wild.now c.args.steps))) old
    = puts_past o c.args.plan.strike c.args.plan.wild.now gone.new.machine c.args.steps gone.result.taken c.args.passed
    gone.new.outlet.passed gone.new.outlet.count old new c.ranges.steps.fits
    gone.result.pause went gone.ensures.ran gone.ensures.heard.2 in
    search rules
