use Rattle.std.proofs.Common.{◌≡◌, ℕ, List, sym, subst, arith}
use Rattle.ft_types.specs.Spellable.{IsSpellable}
use Rattle.ft_format.specs.Broken.{object_of}
use Rattle.ft_format.proofs.ReadWhole.{read_spells}
use Rattle.ft_flight.specs.declared.flown.FlightEnd.TheVariants as end
use Rattle.ft_types.specs.InitialWords.{object_with_words}
use Rattle.ft_flight.specs.Flights.{HandedOut, IsFlight, IsWhole}
use Rattle.ft_flight.proofs.calls.go_on.Goals as goal

pub go-requires : goal.go-requires
go-requires c = subst (λ (ws : List ℕ). IsSpellable (object_of ws)) (sym c.again-view.ensures.seen)
    (read_spells c.args.bytes.now (λ i. omega (arith, c.type_inv.bytes i)) c.requires).spellable

pub returns-clause-whole : goal.returns-clause-whole
returns-clause-whole c = λ strike saved given.
    subst (λ (ws : List ℕ). IsFlight (object_of ws) strike c.args.state.now c.args.cells.now saved →
    HandedOut (object_with_words (object_of ws) saved) c.args.state.now.handed given → c.go.result.end ≡ end.Done →
    IsWhole (object_with_words (object_of ws) saved) c.go.new.state) c.again-view.ensures.seen
    (c.go.ensures.whole strike saved given)
