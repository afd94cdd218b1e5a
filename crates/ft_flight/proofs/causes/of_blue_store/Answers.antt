use Rattle.std.proofs.Common.{ap, sym, ◌∙◌, drop}
use Rattle.ft_flight.specs.Causes.{blue_store_cause}
use Rattle.ft_flight.specs.Rings.{pending_of}
use Rattle.ft_flight.proofs.Exact.{head_is}
use Rattle.ft_flight.proofs.causes.of_blue_store.Goals as goal

pub returns-in-Some : goal.returns-in-Some
returns-in-Some c =
    let q = pending_of c.args.queue.now in
    c.of_pair.ensures (drop 1 q)
    ∙ ap (λ x. blue_store_cause x c.args.addr c.args.value c.has_cell.result)
    (sym (head_is q (c.in-Some.a, c.in-Some.v) (sym c.get.ensures ∙ c.in-Some.is)))
    ∙ ap (blue_store_cause q c.args.addr c.args.value) c.has_cell.ensures
