use Rattle.std.proofs.Common.{ℕ, sym, subst, rules}
use Rattle.ft_isa.specs.Words.{apply}
use Rattle.ft_semantics.specs.Step.{execute, writes}
use Rattle.ft_semantics.specs.State.{held}
use Rattle.ft_machine.specs.Effects.{Does, DoesQuietly}
use Rattle.ft_machine.specs.Banks.{bank_over}
use Rattle.ft_machine.specs.Arrays.{cells_of}
use Rattle.ft_machine.proofs.bank.RegisterFile.execute.Goals as goal

pub returns-in-OpReg : goal.returns-in-OpReg
returns-in-OpReg g c =
    let q = g.Q.PendingStores.pending c.args.queue.now in
    let old = bank_over c.args.self.now q c.args.cells.now in
    let new = bank_over c.operate.new.self q c.args.cells.now in
    let done = subst (λ (v : ℕ). DoesQuietly (writes c.in-OpReg.rd
    (held c.args.self.now.registers c.in-OpReg.rs.number).colour
    (apply c.in-OpReg.op (held c.args.self.now.registers c.in-OpReg.rs.number).word v)) old new c.operate.result)
    c.word-other.ensures (c.operate.ensures q (cells_of c.args.cells.now)) in
    subst (λ i. Does (execute i) old new c.operate.result c.args.wild.now c.args.wild.now) (sym c.in-OpReg.is)
    (record { does = λ green blue f. done.does green blue f c.args.wild.now })

pub returns-in-OpWord : goal.returns-in-OpWord
returns-in-OpWord g c =
    let q = g.Q.PendingStores.pending c.args.queue.now in
    let done = c.operate-in-OpWord.ensures q (cells_of c.args.cells.now) in
    subst (λ i. Does (execute i) (bank_over c.args.self.now q c.args.cells.now)
    (bank_over c.operate-in-OpWord.new.self q c.args.cells.now) c.operate-in-OpWord.result c.args.wild.now
    c.args.wild.now) (sym c.in-OpWord.is) (record { does = λ green blue f. done.does green blue f c.args.wild.now })

pub returns-in-Mov : goal.returns-in-Mov
returns-in-Mov g c =
    let q = g.Q.PendingStores.pending c.args.queue.now in
    let done = c.write.ensures q (cells_of c.args.cells.now) in
    subst (λ i. Does (execute i) (bank_over c.args.self.now q c.args.cells.now)
    (bank_over c.write.new.self q c.args.cells.now) c.write.result c.args.wild.now c.args.wild.now) (sym c.in-Mov.is)
    (record { does = λ green blue f. done.does green blue f c.args.wild.now })

pub returns-in-Idx : goal.returns-in-Idx
returns-in-Idx g c =
    let q = g.Q.PendingStores.pending c.args.queue.now in
    let done = c.index.ensures q (cells_of c.args.cells.now) in
    subst (λ i. Does (execute i) (bank_over c.args.self.now q c.args.cells.now)
    (bank_over c.index.new.self q c.args.cells.now) c.index.result c.args.wild.now c.args.wild.now) (sym c.in-Idx.is)
    (record { does = λ green blue f. done.does green blue f c.args.wild.now })

pub returns-in-St-Green-default-default : goal.returns-in-St-Green-default-default
returns-in-St-Green-default-default g c = let h = c.store_green.ensures (cells_of c.args.cells.now) in search rules

pub returns-in-JmpG : goal.returns-in-JmpG
returns-in-JmpG g c =
    let h = c.jump_green.ensures (g.Q.PendingStores.pending c.args.queue.now) (cells_of c.args.cells.now) in
    search rules

pub returns-in-JmpB : goal.returns-in-JmpB
returns-in-JmpB g c =
    let h = c.jump_blue.ensures (g.Q.PendingStores.pending c.args.queue.now) (cells_of c.args.cells.now) in
    search rules

pub returns-in-BzG : goal.returns-in-BzG
returns-in-BzG g c =
    let h = c.branch_green.ensures (g.Q.PendingStores.pending c.args.queue.now) (cells_of c.args.cells.now) in
    search rules

pub returns-in-BzB : goal.returns-in-BzB
returns-in-BzB g c =
    let h = c.branch_blue.ensures (g.Q.PendingStores.pending c.args.queue.now) (cells_of c.args.cells.now) in
    search rules
