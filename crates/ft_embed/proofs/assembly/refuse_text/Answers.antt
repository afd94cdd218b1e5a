use Rattle.std.proofs.Common.{ap, subst, sym, ◌∙◌}
use Rattle.ft_embed.specs.declared.handing.Written.{Written}
use Rattle.ft_embed.specs.Texts.{IsAsmRefused}
use Rattle.ft_embed.proofs.Judged.{asm_text, asm_order}
use Rattle.ft_embed.proofs.assembly.refuse_text.Goals as goal

pub returns-in-Text-clause-refused : goal.returns-in-Text-clause-refused
returns-in-Text-clause-refused c = λ text h _.
    subst (IsAsmRefused text) (sym (ap (λ (w : Written). w.why) c.not_written.ensures ∙ c.told_asm.ensures))
    (asm_text text c.args.error c.in-Text.line c.in-Text.is h)

pub returns-in-Order-clause-refused : goal.returns-in-Order-clause-refused
returns-in-Order-clause-refused c = λ text h _.
    subst (IsAsmRefused text) (sym (ap (λ (w : Written). w.why) c.not_written-in-Order.ensures
    ∙ c.told_asm-in-Order.ensures)) (asm_order text c.args.error c.in-Order.line c.in-Order.is h)
