use Rattle.std.proofs.Common.{◌≡◌, ◌+◌, ◌≤◌, length}
use Rattle.ft_text.specs.Lines.{lines_of}
use Rattle.ft_flow.specs.Heads.{said}
use Rattle.ft_flow.proofs.rows.next_row.Given as goal

abbrev pub invariant-loop-line : goal.invariant-loop-line
invariant-loop-line l = record {
  same : said l.at (lines_of l.left) ≡ said l.fn.number (lines_of l.fn.text);
  room : l.at + length l.left ≤ l.fn.number + length l.fn.text;
  later : l.fn.number ≤ l.at;
  shorter : length l.left ≤ length l.fn.text;
}

abbrev pub decreases-loop-line : goal.decreases-loop-line
decreases-loop-line l = length l.left
