use Rattle.ft_flight.specs.Rings.{pending_of}
use Rattle.ft_flight.proofs.Started.{first_is}
use Rattle.ft_flight.proofs.cycling.first_state.Goals as goal

pub returns-clause-start : goal.returns-clause-start
returns-clause-start g c = λ words e.
    first_is (g.P.Program.object c.args.program.now) c.entry_address-entry.result (pending_of c.new.result) words
    c.entry_address-entry.ensures c.new.ensures e
