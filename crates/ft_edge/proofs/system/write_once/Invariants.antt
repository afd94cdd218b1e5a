use Rattle.std.proofs.Common.{◌≡◌}
use Rattle.std.specs.Io.KnownBytes.{Keeps}
use Rattle.ft_edge.specs.Recording.{accepted, recorded_writer}
use Rattle.ft_edge.proofs.system.write_once.Given as goal

abbrev pub invariant-loop : goal.invariant-loop
invariant-loop g l = record {
  bytes : accepted l.out ≡ accepted l.fn.out;
  told : Keeps (g.W.Write.contents (recorded_writer l.fn.out)) (g.W.Write.contents (recorded_writer l.out));
}
