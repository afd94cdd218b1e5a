use Rattle.std.proofs.Common.{ℕ, List, sym, subst, arith}
use Rattle.ft_types.specs.Spellable.{IsSpellable}
use Rattle.ft_format.specs.Broken.{object_of}
use Rattle.ft_format.proofs.ReadWhole.{read_spells}
use Rattle.ft_flight.proofs.calls.cycle_on.Goals as goal

pub cycle-requires-clause-spellable : goal.cycle-requires-clause-spellable
cycle-requires-clause-spellable c = subst (λ (ws : List ℕ). IsSpellable (object_of ws)) (sym c.again-view.ensures.seen)
    (read_spells c.args.bytes.now (λ i. omega (arith, c.type_inv.bytes i)) c.requires.known).spellable
