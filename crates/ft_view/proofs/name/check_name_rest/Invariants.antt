use Rattle.std.proofs.Common.{◌≡◌, ◌+◌, drop}
use Rattle.ft_format.specs.Broken.{name_rest_broken}
use Rattle.ft_view.proofs.name.check_name_rest.Given as goal

abbrev pub invariant-loop-b : goal.invariant-loop-b
invariant-loop-b l = record {
  place : l.place ≡ l.at + l.b-index;
  broken : name_rest_broken l.version l.place (drop l.b-index l.bytes) ≡ name_rest_broken l.version l.at l.bytes;
}
