use Rattle.std.proofs.Common.{◌≡◌, take}
use Rattle.ft_types.specs.Objects.{queue_rows}
use Rattle.ft_format.specs.Broken.{object_of}
use Rattle.ft_object.proofs.copying.copy_queue.Given as goal

abbrev pub invariant-loop-i : goal.invariant-loop-i
invariant-loop-i l = record { items : l.queue.items ≡ take l.i (queue_rows (object_of l.view) l.t) }
