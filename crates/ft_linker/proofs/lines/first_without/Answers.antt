use Rattle.std.proofs.Common.{sym, ◌∙◌}
use Rattle.ft_linker.proofs.Mapped.{at_index}
use Rattle.ft_linker.proofs.JoinedBlocks.{without_here, without_later, without_none}
use Rattle.ft_linker.proofs.lines.first_without.Goals as goal

pub loop-n-preserved : goal.loop-n-preserved
loop-n-preserved c = c.loop-n.invariant ∙ without_later c.args.objects.now c.args.asks.now c.loop-n.n
    c.index-asks-n.result (at_index c.args.asks.now c.loop-n.n c.index-asks-n.result c.loop-n-test.true
    c.index-asks-n.is) (sym c.if-not-has_block.ensures)

pub returns-then-not-has_block : goal.returns-then-not-has_block
returns-then-not-has_block c = sym (c.loop-n.invariant
    ∙ without_here c.args.objects.now c.args.asks.now c.loop-n.n c.index-asks-n.result
    (at_index c.args.asks.now c.loop-n.n c.index-asks-n.result c.loop-n-test.true c.index-asks-n.is)
    (sym c.if-not-has_block.ensures))

pub returns : goal.returns
returns c = sym (c.loop-n.invariant ∙ without_none c.args.objects.now c.args.asks.now c.loop-n.n c.loop-n-test.false)
