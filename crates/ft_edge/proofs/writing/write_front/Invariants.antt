use Rattle.std.proofs.Common.{◌≡◌, length, take, ◌-◌, ◌≤◌, ◌++◌}
use Rattle.std.specs.Io.KnownBytes.{Appends}
use Rattle.ft_edge.specs.Recording.{accepted, recorded_writer}
use Rattle.ft_edge.proofs.writing.write_front.Given as goal

abbrev pub invariant-loop-done : goal.invariant-loop-done
invariant-loop-done g l = record {
  written : accepted l.out ≡ accepted l.fn.out ++ take l.done l.bytes;
  told : Appends (g.W.Write.contents (recorded_writer l.fn.out)) (g.W.Write.contents (recorded_writer l.out)) (take
      l.done l.bytes);
  within : l.done ≤ length l.bytes;
}

abbrev pub decreases-loop-done : goal.decreases-loop-done
decreases-loop-done g l = length l.bytes - l.done
