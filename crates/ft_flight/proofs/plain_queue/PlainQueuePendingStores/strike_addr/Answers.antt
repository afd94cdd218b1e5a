use Rattle.std.proofs.Common.{refl, sym, ◌∙◌, arith, rules, slice_index_or}
use Rattle.std.specs.Prelude.{min}
use Rattle.ft_queue.proofs.PendingLemmas.{with_address-beyond}
use Rattle.ft_flight.specs.Rings.{nothing, pending_of}
use Rattle.ft_flight.proofs.Ringed.{as_many, address_struck}
use Rattle.ft_flight.proofs.plain_queue.PlainQueuePendingStores.strike_addr.Goals as goal

pub returns-then-i-len-clause-struck : goal.returns-then-i-len-clause-struck
returns-then-i-len-clause-struck c = sym (with_address-beyond (pending_of c.args.self.now) c.args.i c.args.addr
    (omega (arith, c.if-i-len.true, c.len.ensures.pairs)))

pub returns-clause-struck : goal.returns-clause-struck
returns-clause-struck c =
    let q = c.args.self.now in
    let n = min q.count 8 in
    let k = c.place-place.result in
    let all = c.len.ensures.pairs ∙ as_many q.pairs q.first n in
    address_struck q.pairs (search rules) k (record {
      addr = c.args.addr;
      value = (slice_index_or q.pairs k nothing).value;
    })
    q.first n c.args.i c.args.addr (omega (arith, c.if-i-len.false, all)) (omega arith) c.place-place.ensures refl refl
