use Rattle.std.specs.FinMap.{get-empty}
use Rattle.ft_types.proofs.Maps.{get-insert}
use Rattle.ft_modules.proofs.Elements.{get-remove}
use Rattle.ft_modules.specs.CodeWalk.{code_walk}
use Rattle.ft_modules.proofs.examples.examples_of_walks.Goals as goal

pub returns : goal.returns
unfolding code_walk
returns c = record {
  jumped_to = simp (get-insert, get-remove);
  handed_over = simp (get-insert, get-remove);
  stored = simp (get-insert, get-remove);
  index = simp get-insert;
  unknown = simp get-empty;
}
