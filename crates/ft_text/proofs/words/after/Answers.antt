use Rattle.ft_text.proofs.FirstWords.{after_by_cases}
use Rattle.ft_text.proofs.words.after.Goals as goal

pub returns : goal.returns
returns c = after_by_cases c.args.text.now c.args.piece.now c.strip_prefix.result c.strip_prefix.ensures.cases
