use Rattle.std.proofs.Common.{arith}
use Rattle.ft_flight.proofs.Ringed.{counted, counted_eight}
use Rattle.ft_flight.proofs.plain_queue.PlainQueuePendingStores.len.Goals as goal

pub returns-then-self-clause-pairs : goal.returns-then-self-clause-pairs
returns-then-self-clause-pairs c =
    let q = c.args.self.now in
    counted q.pairs q.first q.count c.if-self.true

pub returns-else-self-clause-pairs : goal.returns-else-self-clause-pairs
returns-else-self-clause-pairs c =
    let q = c.args.self.now in
    counted_eight q.pairs q.first q.count (omega (arith, c.if-self.false))
