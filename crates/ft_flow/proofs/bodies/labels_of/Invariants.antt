use Rattle.std.proofs.Common.{◌≡◌, ◌+◌, ◌≤◌, ◌++◌, length, map}
use Rattle.ft_text.specs.Lines.{lines_of}
use Rattle.ft_flow.specs.Heads.{said}
use Rattle.ft_flow.specs.Bodies.{labels_of}
use Rattle.ft_flow.proofs.bodies.labels_of.Given as goal

abbrev pub invariant-loop-row : goal.invariant-loop-row
invariant-loop-row l = record {
  same : map (λ r. r.now) l.labels.items ++ labels_of (said l.next (lines_of l.rest))
      ≡ labels_of (said l.fn.number (lines_of l.fn.text));
  room : l.next + length l.rest ≤ l.fn.number + length l.fn.text;
}

abbrev pub decreases-loop-row : goal.decreases-loop-row
decreases-loop-row l = length l.rest
