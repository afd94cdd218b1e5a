use Rattle.std.proofs.Common.{ap}
use Rattle.ft_norm.specs.Entries.{entry_form}
use Rattle.ft_norm.proofs.Constants.{word_entry}
use Rattle.ft_norm.proofs.entry.word_of.Goals as goal

pub returns-in-len1 : goal.returns-in-len1
returns-in-len1 c = λ fs.
    word_entry fs c.args.entry.now _ c.as_slice.result.now _ c.word_of_term.result (ap (entry_form fs) c.in-Linear.is)
    c.as_slice.ensures c.in-len1.len_at_least c.in-len1.len_below (c.word_of_term.ensures fs)
