use Rattle.std.proofs.Common.{ap, sym, ◌∙◌}
use Rattle.ft_machine.specs.Arrays.{cells_of}
use Rattle.ft_machine.specs.Processors.{state_over}
use Rattle.ft_flight.specs.Causes.{cause, cause_at}
use Rattle.ft_flight.specs.Rings.{pending_of}
use Rattle.ft_flight.proofs.causes.cause_of.Goals as goal

pub returns-in-None : goal.returns-in-None
returns-in-None g c =
    let o = g.P.Program.object c.args.program.now in
    let cells = c.args.cells.now in
    let pending = pending_of c.args.state.now.queue in
    c.of_fetch.ensures pending cells
    ∙ ap (λ f. cause_at o f (state_over c.resume-processor.result pending cells)) (sym c.in-None.is ∙ c.fetched.ensures)
    ∙ ap (cause o) (c.resume-processor.ensures cells)

pub returns-in-Some : goal.returns-in-Some
returns-in-Some g c =
    let o = g.P.Program.object c.args.program.now in
    let cells = c.args.cells.now in
    let pending = pending_of c.args.state.now.queue in
    c.of_instr.ensures o
    ∙ ap (λ f. cause_at o f (state_over c.resume-processor.result pending cells)) (sym c.in-Some.is ∙ c.fetched.ensures)
    ∙ ap (cause o) (c.resume-processor.ensures cells)
