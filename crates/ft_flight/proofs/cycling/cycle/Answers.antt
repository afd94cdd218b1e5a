use Rattle.std.proofs.Common.{rules, sym, subst, ◌≡◌, ◌∙◌, ap, List, ℕ}
use Rattle.ft_flight.proofs.OtherWords.{spellable_with, accepted_with}
use Rattle.ft_flight.proofs.Flying.{flight_first}
use Rattle.ft_flight.specs.Flights.{IsFlight}
use Rattle.std.specs.Prelude.{None}
use Rattle.ft_flight.proofs.cycling.cycle.Goals as goal

pub returns-clause-flight : goal.returns-clause-flight
returns-clause-flight g c = λ accepted holds.
    let o = g.P.Program.object c.args.program.now in
    let same : c.copy_from_slice.new.self ≡ c.args.cells.now = search rules in
    subst (λ (ws : List ℕ). IsFlight o None c.first_state.result c.args.cells.now ws) (sym same)
    (flight_first o c.first_state.result c.args.cells.now c.args.cells.now
    (spellable_with o c.args.cells.now holds c.requires.spellable) (accepted_with o c.args.cells.now holds accepted)
    (search rules) c.first_state.ensures.steps
    c.first_state.ensures.seen)
