use Rattle.std.proofs.Common.{refl}
use Rattle.std.specs.FinMap.{get-empty}
use Rattle.ft_typing.specs.TypedWord.{same_basic}
use Rattle.ft_typing.specs.RowWords.{same_colour}
use Rattle.ft_types.proofs.Maps.{get-insert}
use Rattle.ft_modules.proofs.Elements.{get-remove}
use Rattle.ft_modules.specs.CodeWalk.{code_walk}
use Rattle.ft_modules.specs.LinkRefusals.{are_few, modules_refusal, imports_refusal}
use Rattle.ft_modules.specs.SameTrees.{like_types}
use Rattle.ft_modules.proofs.examples.examples_of_link_refusals.Goals as goal

pub returns : goal.returns
unfolding same_basic same_colour code_walk are_few modules_refusal imports_refusal like_types
returns c = record {
  linked = simp (get-insert, get-remove, get-empty);
  entry = simp (get-insert, get-remove, get-empty);
  cells = simp (get-insert, get-remove, get-empty);
  code_cell = refl;
  rows = simp (get-insert, get-remove, get-empty);
  code = simp (get-insert, get-remove, get-empty);
  block = simp (get-insert, get-remove, get-empty);
  stub = simp (get-insert, get-remove, get-empty);
  missing = simp (get-insert, get-remove, get-empty);
  types = simp (get-insert, get-remove, get-empty);
}
