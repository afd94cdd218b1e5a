use Rattle.ft_modules.proofs.LaidNodes.{laid_nodes, laid_tree}
use Rattle.ft_modules.proofs.linking_laws.laid_nodes_stand_for_the_same_trees.Goals as goal

pub returns : goal.returns
returns c = record { nodes = laid_nodes; trees = laid_tree }
