use Rattle.ft_syntax.proofs.Reached.{one_tree}
use Rattle.ft_syntax.proofs.laws.one_list_has_one_tree.Goals as goal

pub returns : goal.returns
returns c = one_tree
