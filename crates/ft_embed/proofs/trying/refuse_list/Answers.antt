use Rattle.std.proofs.Common.{sym, subst, ◌∙◌}
use Rattle.ft_embed.specs.Trials.{IsListRefused}
use Rattle.ft_embed.proofs.Tried.{list_line}
use Rattle.ft_embed.proofs.trying.refuse_list.Goals as goal

pub returns-in-Line-clause-told : goal.returns-in-Line-clause-told
returns-in-Line-clause-told c = λ list steps h _.
    subst (IsListRefused list steps) (sym (c.not_tried.ensures.why ∙ c.told_list.ensures))
    (list_line list steps c.args.error c.in-Line.number c.in-Line.is h)
