use Rattle.std.proofs.Common.{sym, ◌∙◌}
use Rattle.ft_text.proofs.FirstWords.{split_there, split_only, split_never}
use Rattle.ft_text.proofs.words.split_word.Goals as goal

pub returns-in-Some-clause-some : goal.returns-in-Some-clause-some
returns-in-Some-clause-some c = split_there c.args.text.now c.in-Some.at (sym c.first_space.ensures ∙ c.in-Some.is)

pub returns-in-Some-clause-only : goal.returns-in-Some-clause-only
returns-in-Some-clause-only c = λ a b h e. split_only c.args.text.now c.in-Some.at a b (sym c.first_space.ensures
    ∙ c.in-Some.is) h e

pub returns-in-None-clause-only : goal.returns-in-None-clause-only
returns-in-None-clause-only c = λ a b h e. split_never c.args.text.now a b (sym c.first_space.ensures
    ∙ c.in-None.is) h e
