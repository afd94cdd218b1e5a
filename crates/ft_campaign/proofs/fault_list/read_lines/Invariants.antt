use Rattle.std.proofs.Common.{◌≡◌, ◌≤◌, ◌++◌, List, ℕ, length}
use Rattle.ft_text.specs.Lines.{lines_of}
use Rattle.ft_campaign.specs.FaultList.{AreStrikeTexts}
use Rattle.ft_campaign.proofs.fault_list.read_lines.Given as goal

abbrev pub invariant-loop-line : goal.invariant-loop-line
invariant-loop-line l = record {
  lines : (done : List (List ℕ)) × (lines_of l.fn.bytes ≡ done ++ lines_of l.rest) × AreStrikeTexts done l.faults.items;
  few : length l.faults.items ≤ 65536;
}

abbrev pub decreases-loop-line : goal.decreases-loop-line
decreases-loop-line l = length l.rest
