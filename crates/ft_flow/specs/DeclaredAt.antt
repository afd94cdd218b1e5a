-- The code's declarations as plain data: private to the code.
use Rattle.std.specs.Prelude.{map}
use Rattle.ft_text.specs.Lines.{lines_of}
use Rattle.ft_flow.specs.Heads.{said, Declared}
use Rattle.ft_flow.specs.Bodies.{Cells, SoFar}
use Rattle.ft_flow.specs.declared.cells.Declared as declared
use Rattle.ft_flow.specs.declared.cells.Cells as cells
use Rattle.ft_flow.specs.declared.bodies.SoFar as bodies

abbrev pub declared_at : declared.Declared → Declared
declared_at d = record {
  names = map (λ r. r.now) d.names.items;
  firsts = d.firsts.items;
  lengths = d.lengths.items;
  cells = map (λ n. n.items) d.cells.items;
  inits = d.inits.items;
}

abbrev pub cells_at : cells.Cells → Cells
cells_at c = record { declared = declared_at c.declared; rest = said c.next (lines_of c.rest.now) }

abbrev pub so_far_at : bodies.SoFar → SoFar
so_far_at b = record { steps = b.steps.items; lines = b.lines.items; unended = b.unended; seen = b.seen }
