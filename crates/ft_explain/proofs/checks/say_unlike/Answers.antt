use Rattle.ft_asm.proofs.PieceLaws.{regs_count}
use Rattle.ft_explain.proofs.checks.say_unlike.Goals as goal

pub say_unlike_rows-requires-clause-count : goal.say_unlike_rows-requires-clause-count
say_unlike_rows-requires-clause-count g c = regs_count (g.P.Program.object c.args.program.now) c.args.t
    c.code_type-head.result c.requires.there c.code_type-head.ensures

pub say_rows-requires-clause-count : goal.say_rows-requires-clause-count
say_rows-requires-clause-count g c = regs_count (g.P.Program.object c.args.program.now) c.args.t c.code_type-head.result
    c.requires.there c.code_type-head.ensures
