use Rattle.ft_asm.proofs.PieceLaws.{regs_count}
use Rattle.ft_explain.proofs.known.Known.before.Goals as goal

pub put_rows-requires-clause-count : goal.put_rows-requires-clause-count
put_rows-requires-clause-count g c = regs_count (g.P.Program.object c.args.program.now) c.args.t c.code_type-head.result
    c.requires.there c.code_type-head.ensures
