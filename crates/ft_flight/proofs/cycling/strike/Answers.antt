use Rattle.std.proofs.Common.{sym, subst, ◌≡◌, ◌∙◌, ap, inr, []}
use Rattle.ft_semantics.specs.State.{State}
use Rattle.ft_semantics.specs.Strike.{is_there, struck_state}
use Rattle.ft_machine.specs.Arrays.{cells_of}
use Rattle.ft_machine.specs.Processors.{state_over}
use Rattle.ft_flight.specs.Rings.{pending_of}
use Rattle.ft_flight.proofs.Flying.{flight_struck}
use Rattle.ft_flight.proofs.Started.{struck_fetched}
use Rattle.ft_flight.proofs.cycling.strike.Goals as goal

pub suspend-requires-clause-from : goal.suspend-requires-clause-from
suspend-requires-clause-from g c =
    let old = state_over c.resume-processor.result (pending_of c.args.state.now.queue) [] in
    inr (inr (ap (λ (x : State). x.fetched) (c.strike-struck.ensures.struck (cells_of []))
    ∙ struck_fetched old c.args.site c.args.value ∙ ap (λ (x : State). x.fetched) (c.resume-processor.ensures [])))

pub returns-clause-there : goal.returns-clause-there
returns-clause-there g c = λ cells. c.strike-struck.ensures.there (cells_of cells)
    ∙ ap (λ (x : State). is_there x c.args.site) (c.resume-processor.ensures cells)

pub returns-clause-flight : goal.returns-clause-flight
returns-clause-flight g c = λ cells saved h.
    let o = g.P.Program.object c.args.program.now in
    flight_struck o c.args.state.now c.suspend.new.state cells saved c.args.site c.args.value h
    (c.suspend.ensures.stands cells ∙ c.strike-struck.ensures.struck (cells_of cells)
    ∙ ap (λ (x : State). struck_state x c.args.site c.args.value) (c.resume-processor.ensures cells))
    c.suspend.ensures.steps c.suspend.ensures.seen c.suspend.ensures.handed
