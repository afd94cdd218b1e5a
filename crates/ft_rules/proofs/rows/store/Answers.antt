use Rattle.std.proofs.Common.{sym, subst}
use Rattle.ft_isa.specs.declared.colour.Colour.{Colour}
use Rattle.ft_isa.specs.declared.instr.Instr.TheVariants.{St}
use Rattle.ft_typing.specs.TypingRow.{row}
use Rattle.ft_rules.specs.Answers.{Does}
use Rattle.ft_contexts.specs.Contexts.{context_in}
use Rattle.ft_rules.proofs.rows.store.Goals as goal

pub returns-in-Green : goal.returns-in-Green
returns-in-Green c = λ o t. subst (λ (k : Colour).
    Does (row o (context_in c.args.forms.now c.args.context.now) (St k c.args.rd c.args.rs)) o c.args.forms.now
    c.args.forms.now c.args.context.now c.store_green.new.context c.store_green.result) (sym c.in-Green.is)
    (c.store_green.ensures o t)

pub returns-in-Blue : goal.returns-in-Blue
returns-in-Blue c = λ o t. subst (λ (k : Colour). Does
    (row o (context_in c.args.forms.now c.args.context.now) (St k c.args.rd c.args.rs)) o c.args.forms.now
    c.store_blue.new.forms c.args.context.now c.store_blue.new.context c.store_blue.result) (sym c.in-Blue.is)
    (c.store_blue.ensures o t)
