use Rattle.std.proofs.Common.{refl}
use Rattle.ft_static.proofs.Lawful.{nodes_are_lawful}
use Rattle.ft_static.proofs.examples.examples_of_nodes.Goals as goal

pub returns : goal.returns
returns c = record {
  lawful = nodes_are_lawful;
  sum = refl;
  selection = refl;
  substituted = refl;
}
