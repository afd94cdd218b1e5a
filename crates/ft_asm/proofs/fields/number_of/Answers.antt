use Rattle.ft_text.proofs.NumberWords.{number_is}
use Rattle.ft_asm.proofs.fields.number_of.Goals as goal

pub returns : goal.returns
returns c = number_is c.args.word.now c.read_number.result c.read_number.ensures.some c.read_number.ensures.exact
