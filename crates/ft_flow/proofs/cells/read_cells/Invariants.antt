use Rattle.std.proofs.Common.{◌≡◌, ◌+◌, ◌≤◌, length}
use Rattle.ft_text.specs.Lines.{lines_of}
use Rattle.ft_flow.specs.Heads.{none_declared, said}
use Rattle.ft_flow.specs.Bodies.{read_cells}
use Rattle.ft_flow.specs.Lawful.{IsLawful}
use Rattle.ft_flow.specs.DeclaredAt.{declared_at}
use Rattle.ft_flow.proofs.cells.read_cells.Given as goal

abbrev pub invariant-loop-row : goal.invariant-loop-row
invariant-loop-row l = record {
  same : read_cells (declared_at l.declared) (said l.next (lines_of l.rest))
      ≡ read_cells none_declared (said l.fn.number (lines_of l.fn.text));
  lawful : IsLawful (declared_at l.declared);
  few : length l.declared.inits.items ≤ 1024;
  room : l.next + length l.rest ≤ l.fn.number + length l.fn.text;
}

abbrev pub decreases-loop-row : goal.decreases-loop-row
decreases-loop-row l = length l.rest
