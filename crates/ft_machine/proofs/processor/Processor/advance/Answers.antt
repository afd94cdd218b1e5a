use Rattle.std.proofs.Common.{sym, subst, ◌∙◌}
use Rattle.ft_machine.specs.Advances.{Advances}
use Rattle.ft_machine.proofs.Advancing.{advances_first, advances_cells, advances_to_cell}
use Rattle.ft_machine.specs.Processors.{state_over}
use Rattle.ft_machine.proofs.processor.Processor.advance.Goals as goal

pub returns-clause-advances : goal.returns-clause-advances
returns-clause-advances g c =
    let pending = g.Q.PendingStores.pending in
    let o = g.P.Program.object c.args.program.now in
    let gone = c.go-gone in
    subst (λ x. Advances o (state_over c.args.self.now (pending c.args.queue.now) c.args.cells.now) c.args.wild.now
    (state_over gone.new.self (pending gone.new.queue) gone.new.cells) gone.new.wild c.args.most gone.result.taken x)
    (sym c.last.ensures)
    (advances_first _ o (state_over c.args.self.now (pending c.args.queue.now) c.args.cells.now)
    (state_over gone.new.self (pending gone.new.queue) gone.new.cells) c.args.wild.now gone.new.wild _ gone.new.outlet
    gone.result.taken
    c.args.most
    gone.result.pause gone.new.outlet.output gone.ensures.goes gone.ensures.heard gone.ensures.few gone.ensures.early
    gone.ensures.all)

pub returns-clause-cells : goal.returns-clause-cells
returns-clause-cells g c =
    let pending = g.Q.PendingStores.pending in
    let o = g.P.Program.object c.args.program.now in
    let gone = c.go-gone in
    advances_cells o (state_over c.args.self.now (pending c.args.queue.now) c.args.cells.now)
    (state_over gone.new.self (pending gone.new.queue) gone.new.cells) c.args.wild.now gone.new.wild c.args.most
    gone.result.taken _
    (advances_first _ o (state_over c.args.self.now (pending c.args.queue.now) c.args.cells.now)
    (state_over gone.new.self (pending gone.new.queue) gone.new.cells) c.args.wild.now gone.new.wild _ gone.new.outlet
    gone.result.taken
    c.args.most
    gone.result.pause gone.new.outlet.output gone.ensures.goes gone.ensures.heard gone.ensures.few gone.ensures.early
    gone.ensures.all)

pub returns-clause-commits : goal.returns-clause-commits
returns-clause-commits g c = λ output is.
    let pending = g.Q.PendingStores.pending in
    let o = g.P.Program.object c.args.program.now in
    let gone = c.go-gone in
    advances_to_cell o (state_over c.args.self.now (pending c.args.queue.now) c.args.cells.now)
    (state_over gone.new.self (pending gone.new.queue) gone.new.cells) c.args.wild.now gone.new.wild c.args.most
    gone.result.taken output
    (subst (λ x. Advances o (state_over c.args.self.now (pending c.args.queue.now) c.args.cells.now) c.args.wild.now
    (state_over gone.new.self (pending gone.new.queue) gone.new.cells) gone.new.wild c.args.most gone.result.taken x)
    (sym c.last.ensures ∙ is)
    (advances_first _ o (state_over c.args.self.now (pending c.args.queue.now) c.args.cells.now)
    (state_over gone.new.self (pending gone.new.queue) gone.new.cells) c.args.wild.now gone.new.wild _ gone.new.outlet
    gone.result.taken
    c.args.most
    gone.result.pause gone.new.outlet.output gone.ensures.goes gone.ensures.heard gone.ensures.few gone.ensures.early
    gone.ensures.all))
