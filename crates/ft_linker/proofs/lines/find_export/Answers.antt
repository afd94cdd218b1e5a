use Rattle.std.proofs.Common.{sym, ◌∙◌}
use Rattle.ft_linker.proofs.Mapped.{at_index}
use Rattle.ft_linker.proofs.JoinedBlocks.{export_here, export_later, export_never}
use Rattle.ft_linker.proofs.lines.find_export.Goals as goal

pub loop-n-preserved : goal.loop-n-preserved
loop-n-preserved c = c.loop-n.invariant ∙ export_later c.args.exports.now c.args.name.now c.loop-n.n
    c.index-exports-n.result (at_index c.args.exports.now c.loop-n.n c.index-exports-n.result c.loop-n-test.true
    c.index-exports-n.is) (sym c.if-same_name.ensures)

pub returns-then-same_name-clause-found : goal.returns-then-same_name-clause-found
returns-then-same_name-clause-found c = c.loop-n.invariant
    ∙ export_here c.args.exports.now c.args.name.now c.loop-n.n c.index-exports-n.result
    (at_index c.args.exports.now c.loop-n.n c.index-exports-n.result c.loop-n-test.true c.index-exports-n.is)
    (sym c.if-same_name.ensures)

pub returns-clause-none : goal.returns-clause-none
returns-clause-none c = c.loop-n.invariant ∙ export_never c.args.exports.now c.args.name.now c.loop-n.n
    c.loop-n-test.false
