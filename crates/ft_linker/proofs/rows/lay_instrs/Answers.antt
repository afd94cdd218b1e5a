use Rattle.ft_modules.specs.Linked.{raised_instr}
use Rattle.ft_linker.proofs.Mapped.{mapped_pushed}
use Rattle.ft_linker.proofs.rows.lay_instrs.Goals as goal

pub loop-n-preserved : goal.loop-n-preserved
loop-n-preserved c = mapped_pushed (raised_instr c.args.k) c.args.instrs.now c.args.laid.now.items c.loop-n.laid.items
    c.push.new.self.items c.loop-n.n c.at-instr.result.now c.raise_instr.result c.loop-n.invariant c.at-instr.ensures
    c.raise_instr.ensures c.in_ok-push.ensures.items
