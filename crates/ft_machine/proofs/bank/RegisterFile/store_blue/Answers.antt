use Rattle.std.proofs.Common.{sym, subst, ◌∙◌}
use Rattle.ft_semantics.specs.Step.{store_blue}
use Rattle.ft_semantics.specs.State.{held}
use Rattle.ft_machine.specs.Effects.{DoesQuietly}
use Rattle.ft_machine.specs.declared.bank.Effect.TheVariants.{Commit}
use Rattle.ft_machine.specs.Banks.{bank_over}
use Rattle.ft_machine.proofs.Banks.{store_commits}
use Rattle.ft_machine.proofs.bank.RegisterFile.store_blue.Goals as goal

pub returns-then-commits : goal.returns-then-commits
returns-then-commits g c =
    let old = bank_over c.args.self.now (g.Q.PendingStores.pending c.args.queue.now) c.args.cells.now in
    let new = bank_over c.args.self.now (g.Q.PendingStores.pending c.commit.new.queue) c.commit.new.cells in
    let took = store_commits c.word-addr.result c.word-value.result old new
    (Commit (record { addr = c.word-addr.result; value = c.word-value.result }))
    (sym c.commits.ensures ∙ c.if-commits.true) (c.commit.ensures c.args.self.now) in
    subst (λ a. DoesQuietly (store_blue a (held c.args.self.now.registers c.args.rs.number).word) old new
    (Commit (record { addr = c.word-addr.result; value = c.word-value.result }))) c.word-addr.ensures
    (subst (λ v. DoesQuietly (store_blue c.word-addr.result v) old new
    (Commit (record { addr = c.word-addr.result; value = c.word-value.result }))) c.word-value.ensures took)
