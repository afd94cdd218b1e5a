use Rattle.ft_embed.proofs.PlanTexts.{these, none_said}
use Rattle.ft_embed.proofs.plan_text.read_answers.Goals as goal

pub returns-in-Ok-clause-ok : goal.returns-in-Ok-clause-ok
returns-in-Ok-clause-ok c = these c.args.text.now c.in-Ok.answers.items c.in-Ok.ensures.ok

pub returns-in-Err-clause-none : goal.returns-in-Err-clause-none
returns-in-Err-clause-none c = λ named answers. none_said c.args.text.now c.in-Err.error answers c.if-text-eq0.false
    named c.in-Err.ensures.err
