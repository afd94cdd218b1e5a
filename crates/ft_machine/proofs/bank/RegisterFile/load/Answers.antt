use Rattle.std.proofs.Common.{subst}
use Rattle.ft_semantics.specs.State.{held}
use Rattle.ft_semantics.specs.Step.{load, found}
use Rattle.ft_machine.specs.Effects.{Does, went}
use Rattle.ft_machine.specs.Banks.{bank_over}
use Rattle.ft_machine.proofs.bank.RegisterFile.load.Goals as goal

pub returns-then-loads : goal.returns-then-loads
returns-then-loads g c =
    let q = g.Q.PendingStores.pending c.args.queue.now in
    subst (λ v. Does (λ s w. load c.args.colour c.args.rd
    (found c.args.colour s (held s.registers c.args.rs.number).word) s w) (bank_over c.args.self.now q c.args.cells.now)
    (bank_over c.loads.new.self q c.args.cells.now) (went v) c.args.wild.now c.loads.new.wild) c.if-loads.true
    c.loads.ensures

pub returns-else-loads : goal.returns-else-loads
returns-else-loads g c =
    let q = g.Q.PendingStores.pending c.args.queue.now in
    subst (λ v. Does (λ s w. load c.args.colour c.args.rd
    (found c.args.colour s (held s.registers c.args.rs.number).word) s w) (bank_over c.args.self.now q c.args.cells.now)
    (bank_over c.loads.new.self q c.args.cells.now) (went v) c.args.wild.now c.loads.new.wild) c.if-loads.false
    c.loads.ensures
