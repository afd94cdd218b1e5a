use Rattle.std.proofs.Common.{◌+◌, ◌≤◌, length}
use Rattle.ft_text.specs.Lines.{lines_of}
use Rattle.ft_link_map.specs.declared.link_map.LinkMap.{LinkMap}
use Rattle.ft_link_map.specs.Held.{Holds}
use Rattle.ft_link_map.proofs.Walked.{Leads}
use Rattle.ft_link_map.proofs.reading.read_lines.Given as goal

abbrev pub invariant-loop-line : goal.invariant-loop-line
invariant-loop-line l = record {
  so_far : (m : LinkMap) × Holds l.draft m × Leads (lines_of l.fn.text) m l.twice l.number (lines_of l.rest);
  few : l.number + length l.rest ≤ length l.fn.text;
}

abbrev pub decreases-loop-line : goal.decreases-loop-line
decreases-loop-line l = length l.rest
