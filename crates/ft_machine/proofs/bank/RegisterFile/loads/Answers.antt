use Rattle.std.proofs.Common.{ap, ◌∙◌, rules}
use Rattle.ft_semantics.specs.Step.{found}
use Rattle.ft_machine.specs.declared.bank.Effect.TheVariants.{On}
use Rattle.ft_machine.specs.Effects.{doing}
use Rattle.ft_machine.specs.Banks.{bank_over}
use Rattle.ft_machine.specs.Arrays.{cells_of}
use Rattle.ft_machine.proofs.Banks.{load_found}
use Rattle.ft_machine.proofs.bank.RegisterFile.loads.Goals as goal

pub returns-in-Some : goal.returns-in-Some
returns-in-Some g c =
    let q = g.Q.PendingStores.pending c.args.queue.now in
    let old = bank_over c.args.self.now q c.args.cells.now in
    load_found c.args.colour c.args.rd c.args.rs c.in-Some.word old (bank_over c.put.new.self q c.args.cells.now) On
    c.args.wild.now (λ green blue f. c.in-Some.ensures c.args.self.now green blue f
    ∙ ap (found c.args.colour (doing old green blue f)) c.word-addr.ensures)
    (c.put.ensures q (cells_of c.args.cells.now))

pub returns-in-None : goal.returns-in-None
returns-in-None g c =
    let h = c.loads_wild.ensures (g.Q.PendingStores.pending c.args.queue.now) (cells_of c.args.cells.now) in
    search rules
