-- The code's names as plain data: private to the code.
use Rattle.std.specs.Prelude.{map}
use Rattle.ft_flow.specs.declared.steps.Names.{Names}
use Rattle.ft_flow.specs.Steps.{Known}

abbrev pub known_of : Names → Known
known_of n = record {
  names = map (λ r. r.now) n.names.items;
  firsts = n.firsts.items;
  lengths = n.lengths.items;
  cells = n.cells;
  labels = map (λ r. r.now) n.labels.items;
}
