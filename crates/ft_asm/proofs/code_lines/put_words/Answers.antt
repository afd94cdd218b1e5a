use Rattle.std.proofs.Common.{Some, sym, ◌∙◌}
use Rattle.ft_asm.proofs.PieceLaws.{instr_put}
use Rattle.ft_asm.proofs.code_lines.put_words.Goals as goal

pub returns-in_ok-put_rows : goal.returns-in_ok-put_rows
returns-in_ok-put_rows g c = instr_put _ _ _ (g.P.Program.object c.args.program.now).substs c.args.instr
    (Some c.in-Some.subst) (sym c.in-Some.is ∙ c.carried.ensures) c.in_ok-put_instr.ensures c.in_ok-put_rows.ensures
