use Rattle.ft_modules.proofs.Keys.{keys_same}
use Rattle.ft_modules.proofs.laws.equal_keys_are_of_equal_trees.Goals as goal

pub returns : goal.returns
returns c = keys_same
