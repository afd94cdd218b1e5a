use Rattle.std.proofs.Common.{[]}
use Rattle.ft_static.proofs.NodeTrees.{stands_for_tree, stands_for_one, tree_fits}
use Rattle.ft_static.proofs.Under.{forms_of_nodes-trees}
use Rattle.ft_static.proofs.Denote.{node_form}
use Rattle.ft_static.proofs.laws.nodes_stand_for_trees.Goals as goal

pub returns : goal.returns
returns c = record {
  stands = stands_for_tree;
  one = stands_for_one;
  words = λ nodes n node h f. (tree_fits nodes n node h f).0;
  variables = λ nodes n node h f. (tree_fits nodes n node h f).1;
  forms = λ ps u nodes. forms_of_nodes-trees ps u [] nodes;
  form = node_form;
}
