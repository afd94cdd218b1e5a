use Rattle.std.proofs.Common.{◌≡◌, take}
use Rattle.ft_isa.specs.Pending.{newest_at}
use Rattle.ft_queue.proofs.pending_stores.PendingStores.newest_at.Given as goal

abbrev pub invariant-loop-i : goal.invariant-loop-i
invariant-loop-i g l = l.newest ≡ newest_at (take l.i (g.Self.PendingStores.pending l.self)) l.addr
