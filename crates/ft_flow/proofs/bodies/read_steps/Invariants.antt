use Rattle.std.proofs.Common.{◌≡◌, ◌+◌, ◌≤◌, length}
use Rattle.ft_text.specs.Lines.{lines_of}
use Rattle.ft_flow.specs.Heads.{said}
use Rattle.ft_flow.specs.Bodies.{at_start, read_steps}
use Rattle.ft_flow.specs.DeclaredAt.{so_far_at}
use Rattle.ft_flow.specs.Named.{known_of}
use Rattle.ft_flow.proofs.bodies.read_steps.Given as goal

abbrev pub invariant-loop-row : goal.invariant-loop-row
invariant-loop-row l = record {
  same : read_steps (known_of l.names) l.end (so_far_at l.so_far) (said l.next (lines_of l.rest))
      ≡ read_steps (known_of l.names) l.end at_start (said l.fn.number (lines_of l.fn.text));
  room : l.next + length l.rest ≤ l.fn.number + length l.fn.text;
  seen : l.so_far.seen ≤ l.next;
}

abbrev pub decreases-loop-row : goal.decreases-loop-row
decreases-loop-row l = length l.rest
