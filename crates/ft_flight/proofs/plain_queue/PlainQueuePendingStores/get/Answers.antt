use Rattle.std.proofs.Common.{Some, ap, sym, ◌∙◌, arith, slice_index_or}
use Rattle.std.specs.Prelude.{min}
use Rattle.ft_flight.specs.Rings.{nothing, pair_of}
use Rattle.ft_flight.proofs.Ringed.{as_many, none_there, pair_there}
use Rattle.ft_flight.proofs.plain_queue.PlainQueuePendingStores.get.Goals as goal

pub returns : goal.returns
returns c =
    let q = c.args.self.now in
    let n = min q.count 8 in
    let all = c.len.ensures.pairs ∙ as_many q.pairs q.first n in
    ap (λ k. Some (pair_of (slice_index_or q.pairs k nothing))) c.place.ensures
    ∙ sym (pair_there q.pairs q.first n c.args.i (omega (arith, c.if-i-len.false, all)))
