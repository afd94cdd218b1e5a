use Rattle.std.proofs.Common.{◌∙◌, arith, rules}
use Rattle.std.specs.Prelude.{min}
use Rattle.ft_flight.proofs.Ringed.{as_many, pushed}
use Rattle.ft_flight.proofs.plain_queue.PlainQueuePendingStores.push.Goals as goal

pub returns-clause-ok : goal.returns-clause-ok
returns-clause-ok c =
    let q = c.args.self.now in
    let n = min q.count 8 in
    pushed q.pairs (record { addr = c.args.addr; value = c.args.value }) q.first n c.len-count.result
    c.place-place.result
    (search rules) (c.len-count.ensures.pairs ∙ as_many q.pairs q.first n) (omega (arith, c.if-count-ge-ROOM.false))
    c.place-place.ensures
