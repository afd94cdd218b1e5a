-- The invariant of a queue's fields.
use Rattle.std.specs.Prelude.{◌≡◌}
use Rattle.ft_queue.specs.declared.queue.StoreQueue.TheInside.{Inside}

-- there is room for exactly eight pairs
pub record IsReserved (q : Inside) : Type 0 where
  pub room : q.pairs.capacity ≡ 8
