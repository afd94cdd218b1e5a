use Rattle.std.proofs.Common.{◌≡◌}
use Rattle.std.specs.Io.KnownBytes.{Keeps}
use Rattle.ft_edge.proofs.system.read_once.Given as goal

abbrev pub invariant-loop : goal.invariant-loop
invariant-loop g l = record {
  keeps : Keeps (g.F.Read.remaining l.fn.file) (g.F.Read.remaining l.file);
  silent : l.heard.files ≡ l.fn.heard.files;
}
