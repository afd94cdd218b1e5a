use Rattle.std.proofs.Common.{sym, ◌∙◌}
use Rattle.ft_legs.proofs.Walks.{search_begins, block_here, block_later}
use Rattle.ft_legs.proofs.certified.block_at.Goals as goal

pub loop-b-init : goal.loop-b-init
loop-b-init g c = search_begins (g.P.Program.object c.args.program.now) c.args.address

pub returns-then-start-address : goal.returns-then-start-address
returns-then-start-address g c =
    sym (block_here (g.P.Program.object c.args.program.now) c.args.address c.loop-b.b c.block-block.result
    c.block-block.ensures c.if-start-address.true) ∙ c.loop-b.invariant

pub loop-b-preserved : goal.loop-b-preserved
loop-b-preserved g c =
    sym (block_later (g.P.Program.object c.args.program.now) c.args.address c.loop-b.b c.block-block.result
    c.block-block.ensures c.if-start-address.false) ∙ c.loop-b.invariant
