use Rattle.std.proofs.Common.{refl}
use Rattle.ft_isa.specs.Words.{apply}
use Rattle.ft_static.proofs.examples.examples_of_memories.Goals as goal

pub returns : goal.returns
unfolding apply
returns c = record {
  unchanged = refl;
  changed = refl;
  two_sorts = refl;
  newest_address = refl;
  older_address = refl;
  older_update_stays = refl;
}
