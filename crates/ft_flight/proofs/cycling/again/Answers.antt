use Rattle.std.proofs.Common.{rules, sym, subst, ◌≡◌, ◌∙◌, ap}
use Rattle.ft_flight.proofs.Flying.{flight_first}
use Rattle.ft_flight.specs.States.{state_in}
use Rattle.ft_flight.proofs.cycling.again.Goals as goal

pub returns-clause-flight : goal.returns-clause-flight
returns-clause-flight g c = λ strike h.
    let o = g.P.Program.object c.args.program.now in
    flight_first o c.first_state.result _ c.args.saved.now h.spellable h.accepted (search rules)
    c.first_state.ensures.steps c.first_state.ensures.seen
