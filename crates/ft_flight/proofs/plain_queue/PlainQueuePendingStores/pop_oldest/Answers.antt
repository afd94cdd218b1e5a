use Rattle.std.proofs.Common.{◌∙◌, arith}
use Rattle.std.specs.Prelude.{min}
use Rattle.ft_flight.proofs.Ringed.{as_many, popped}
use Rattle.ft_flight.proofs.plain_queue.PlainQueuePendingStores.pop_oldest.Goals as goal

pub returns-clause-oldest : goal.returns-clause-oldest
returns-clause-oldest c =
    let q = c.args.self.now in
    let n = min q.count 8 in
    popped q.pairs q.first n c.len-count.result c.place.result (c.len-count.ensures.pairs ∙ as_many q.pairs q.first n)
    (omega arith) (omega (arith, c.if-count-eq0.false)) c.place.ensures
