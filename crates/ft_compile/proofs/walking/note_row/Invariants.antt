use Rattle.std.proofs.Common.{◌≡◌, drop}
use Rattle.ft_lower.specs.Size.{row_size}
use Rattle.ft_compile.specs.Noted.{row_noted}
use Rattle.ft_compile.specs.Viewed.{HasRoom, noted_of}
use Rattle.ft_compile.proofs.walking.note_row.Given as goal

abbrev pub invariant-loop-step : goal.invariant-loop-step
invariant-loop-step l = record {
  left : row_noted l.vars l.scope (noted_of l.notes) (drop l.step-index l.steps)
      ≡ row_noted l.vars l.scope (noted_of l.initial.notes) l.steps;
  room : HasRoom (noted_of l.notes) (row_size (drop l.step-index l.steps));
}
