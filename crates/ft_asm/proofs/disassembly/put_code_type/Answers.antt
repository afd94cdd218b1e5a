use Rattle.ft_asm.proofs.PieceLaws.{regs_count, queue_count, type_put}
use Rattle.ft_asm.proofs.disassembly.put_code_type.Goals as goal

pub put_regs-requires-clause-count : goal.put_regs-requires-clause-count
put_regs-requires-clause-count g c = regs_count (g.P.Program.object c.args.program.now) c.args.t c.code_type-head.result
    c.requires.there c.code_type-head.ensures

pub put_pends-requires-clause-count : goal.put_pends-requires-clause-count
put_pends-requires-clause-count g c = queue_count (g.P.Program.object c.args.program.now) c.args.t
    c.code_type-head.result c.requires.there c.code_type-head.ensures

pub returns : goal.returns
returns g c = λ u is. type_put _ _ _ _ (g.P.Program.object c.args.program.now) c.args.t c.code_type-head.result u is
    c.code_type-head.ensures c.in_ok-put_type.ensures c.in_ok-put_regs.ensures c.in_ok-put_pends.ensures
