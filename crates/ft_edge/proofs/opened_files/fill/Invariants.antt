use Rattle.std.proofs.Common.{◌≡◌, ◌+◌, ◌-◌, ◌≤◌, false, length, take}
use Rattle.std.specs.Io.KnownBytes.{Consumes}
use Rattle.ft_history.specs.Files.{gives}
use Rattle.ft_edge.proofs.opened_files.fill.Given as goal

abbrev pub invariant-loop-filled : goal.invariant-loop-filled
invariant-loop-filled g l = record {
  read : Consumes (g.F.Read.remaining l.fn.file) (g.F.Read.remaining l.file) (take l.filled l.into.items);
  filled : l.filled ≤ length l.into.items;
  within : length l.into.items ≤ l.limit + 1;
  heard : l.heard.files ≡ gives l.fn.heard.files (take l.filled l.into.items) false;
}

abbrev pub decreases-loop-filled : goal.decreases-loop-filled
decreases-loop-filled g l = l.limit + 1 - l.filled
