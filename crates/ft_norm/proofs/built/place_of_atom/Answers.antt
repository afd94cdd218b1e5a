use Rattle.ft_norm.proofs.Linear.{lone_other}
use Rattle.ft_norm.proofs.built.place_of_atom.Goals as goal

pub returns-in-len1-clause-other : goal.returns-in-len1-clause-other
returns-in-len1-clause-other c = lone_other c.place_of_one.result c.args.terms.now _ c.place_of_one.ensures.other
