use Rattle.std.proofs.Common.{length, map, string_bytes}
use Rattle.ft_command.specs.Options.{Given, none_given, GivesAll}
use Rattle.ft_command.specs.Asked.{given_of}
use Rattle.ft_command.proofs.options.read_options.Given as goal

abbrev pub invariant-loop-rest : goal.invariant-loop-rest
invariant-loop-rest l = record {
  on : (g : Given) → GivesAll l.allowed (map string_bytes l.words) none_given g →
      GivesAll l.allowed (map string_bytes l.rest) (given_of l.options) g;
  back : (g : Given) → GivesAll l.allowed (map string_bytes l.rest) (given_of l.options) g →
      GivesAll l.allowed (map string_bytes l.words) none_given g;
}

abbrev pub decreases-loop-rest : goal.decreases-loop-rest
decreases-loop-rest l = length l.rest
