use Rattle.std.proofs.Common.{◌≡◌, ◌+◌, ◌≤◌, ◌++◌, List, ℕ, length, map}
use Rattle.std.specs.List.{AllZip}
use Rattle.ft_text.specs.Lines.{lines_of}
use Rattle.ft_script.specs.Commands.{Gives}
use Rattle.ft_script.specs.Reads.{command_of}
use Rattle.ft_script.proofs.script.read_script.Given as goal

abbrev pub invariant-loop-line : goal.invariant-loop-line
invariant-loop-line l = record {
  lines : (done : List (List ℕ)) × (lines_of l.fn.script ≡ done ++ lines_of l.rest)
      × AllZip Gives done (map command_of l.commands.items);
  few : length l.commands.items + length l.rest ≤ length l.fn.script;
}

abbrev pub decreases-loop-line : goal.decreases-loop-line
decreases-loop-line l = length l.rest
